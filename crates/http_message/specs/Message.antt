-- What an input is: a message whose head and body stand at its front, or refused.
use Rattle.std.specs.Prelude.{◌≡◌, ◌⊎◌, ℕ, ◌<◌, Bool, true, false, List, ◌++◌, length, drop}
use Rattle.std.specs.Prelude.{Ok, Err, Option, None, take}
use Rattle.streams.specs.declared.refused.Refused.{Refused}
use Rattle.streams.specs.declared.refused.Refused.TheVariants.{BadHead, NotPost, NoLength}
use Rattle.streams.specs.declared.refused.Refused.TheVariants.{TooLarge, CutShort, Coding}
use Rattle.http_message.specs.Fields.{lone_value}
use Rattle.http_message.specs.Head.{Head, BeginsWith, HasNoHead, HasNoStart, StartsWith}
use Rattle.http_message.specs.Head.{head_method, head_says}
use Rattle.http_message.specs.Says.{under}
use Rattle.http_message.specs.declared.kind.Kind.{Kind}
use Rattle.http_message.specs.declared.kind.Kind.TheVariants as kinds
use Rattle.http_message.specs.declared.length.TheConstants.{MAX_BODY_BYTES}
use Rattle.http_message.specs.declared.method.Method.{Method}
use Rattle.http_message.specs.declared.methods.Methods.{Methods}

-- the input begins with a head of this status, and this body stands behind it, of so many bytes at
-- most
pub record CarriesWithin (most : ℕ) (kind : Kind) (input : List ℕ) (status : ℕ) (body : List ℕ)
    : Type 0 where
  pub head : Head
  pub begins : BeginsWith kind input head
  pub says : head_says most head ≡ Ok (length body)
  pub code : status ≡ head.code
  pub rest : List ℕ
  pub behind : drop head.size input ≡ body ++ rest

-- the same, where a body has no more bytes than is usual
abbrev pub Carries : Kind → List ℕ → ℕ → List ℕ → Type 0
Carries = CarriesWithin MAX_BODY_BYTES

-- the input begins with a head of this target
pub record HasTarget (kind : Kind) (input target : List ℕ) : Type 0 where
  pub head : Head
  pub begins : BeginsWith kind input head
  pub is : target ≡ head.target

-- the input begins with a head of this method, or of none
pub record HasMethod (kind : Kind) (input : List ℕ) (method : Option Method) : Type 0 where
  pub head : Head
  pub begins : BeginsWith kind input head
  pub is : method ≡ head_method head

-- the input begins with a head, and these are its bytes: they begin with it by themselves
pub record HasHead (kind : Kind) (input bytes : List ℕ) : Type 0 where
  pub head : Head
  pub begins : BeginsWith kind input head
  pub front : bytes ≡ take head.size input
  pub itself : StartsWith kind bytes head

-- the value of the one field of a name, in the head of a request that the bytes begin with, whatever
-- methods are taken; none where there is no such field or more than one, or no such head
pub record HasLone (bytes name : List ℕ) (value : Option (List ℕ)) : Type 0 where
  pub alone : (methods : Methods) (head : Head) → StartsWith (kinds.Request methods) bytes head
      → value ≡ lone_value (under name head.fields)
  pub none : (methods : Methods) → HasNoStart (kinds.Request methods) bytes → value ≡ None

-- the input ends before its body does
pub record IsCut (most : ℕ) (kind : Kind) (input : List ℕ) : Type 0 where
  pub head : Head
  pub begins : BeginsWith kind input head
  pub wanted : ℕ
  pub says : head_says most head ≡ Ok wanted
  pub short : length (drop head.size input) < wanted

-- the first refusal of the input: there is no head, or what the head says, or the body is cut short
abbrev pub IsRefusedWithin : ℕ → Kind → List ℕ → Refused → Type 0
IsRefusedWithin most kind input e =
    ((e ≡ BadHead) × HasNoHead kind input)
    ⊎ (((h : Head) × BeginsWith kind input h × (head_says most h ≡ Err e))
    ⊎ ((e ≡ CutShort) × IsCut most kind input))

-- the same, where a body has no more bytes than is usual
abbrev pub IsRefusedAs : Kind → List ℕ → Refused → Type 0
IsRefusedAs = IsRefusedWithin MAX_BODY_BYTES

-- what an input may be refused as
abbrev pub is_refusal : Refused → Bool
is_refusal BadHead = true
is_refusal NotPost = true
is_refusal NoLength = true
is_refusal TooLarge = true
is_refusal CutShort = true
is_refusal Coding = true
is_refusal _ = false
