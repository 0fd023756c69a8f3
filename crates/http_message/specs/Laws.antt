-- Laws of the definitions.
use Rattle.std.specs.Prelude.{◌≡◌, ◌≢◌, ℕ, true, List, [], Option, Some}
use Rattle.streams.specs.declared.refused.Refused.{Refused}
use Rattle.http_message.specs.Message.{CarriesWithin, HasHead, HasMethod, HasTarget}
use Rattle.http_message.specs.Message.{IsRefusedWithin}
use Rattle.http_message.specs.Methods.{takes}
use Rattle.http_message.specs.declared.kind.Kind.{Kind}
use Rattle.http_message.specs.declared.kind.Kind.TheVariants as kinds
use Rattle.http_message.specs.declared.method.Method.{Method}
use Rattle.http_message.specs.declared.method.Method.TheVariants.{Post}
use Rattle.http_message.specs.declared.methods.Methods.{Methods}

-- whatever the most is that a body may have, an input carries at most one message, or is refused as
-- one thing, and not both; and it has at most one head, one method and one target
pub record HasOneAnswer (most : ℕ) (kind : Kind) (input : List ℕ) : Type 0 where
  pub status : (s t : ℕ) (a b : List ℕ) → CarriesWithin most kind input s a
      → CarriesWithin most kind input t b → s ≡ t
  pub body : (s t : ℕ) (a b : List ℕ) → CarriesWithin most kind input s a
      → CarriesWithin most kind input t b → a ≡ b
  pub refusal : (d e : Refused) → IsRefusedWithin most kind input d
      → IsRefusedWithin most kind input e → d ≡ e
  pub either : (s : ℕ) (a : List ℕ) (e : Refused) → CarriesWithin most kind input s a
      → ¬ (IsRefusedWithin most kind input e)
  pub head : (a b : List ℕ) → HasHead kind input a → HasHead kind input b → a ≡ b
  pub method : (a b : Option Method) → HasMethod kind input a → HasMethod kind input b → a ≡ b
  pub target : (a b : List ℕ) → HasTarget kind input a → HasTarget kind input b → a ≡ b

abbrev pub InputsHaveOneAnswer : Type 0
InputsHaveOneAnswer = (most : ℕ) (kind : Kind) (input : List ℕ) → HasOneAnswer most kind input

-- a method that the listener takes, and POST where there is a body
pub record IsAsked (methods : Methods) (body : List ℕ) (method : Option Method) : Type 0 where
  pub by : Method
  pub is : method ≡ Some by
  pub taken : takes methods by ≡ true
  pub posted : by ≢ Post → body ≡ []

-- a request that an input carries is by a method that the listener takes, and has a body by POST
-- alone
abbrev pub RequestsAreTaken : Type 0
RequestsAreTaken =
    (most : ℕ) (methods : Methods) (input : List ℕ) (status : ℕ) (body : List ℕ)
    (method : Option Method)
    → CarriesWithin most (kinds.Request methods) input status body
    → HasMethod (kinds.Request methods) input method → IsAsked methods body method
