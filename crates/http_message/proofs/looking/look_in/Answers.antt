use Rattle.std.proofs.Common.{◌≡◌, ℕ, List, ◌++◌, subst, sym}
use Rattle.http_message.specs.Head.{Head, StartsWith}
use Rattle.http_message.specs.declared.kind.Kind.{Kind}
use Rattle.http_message.specs.declared.look.Look.TheVariants as looks
use Rattle.http_message.proofs.looking.look_in.Goals as goal

pub returns-in-Request-clause-part : goal.returns-in-Request-clause-part
returns-in-Request-clause-part c =
    subst (λ (k : Kind). c.look_for_request.result ≡ looks.Part → (head : Head) → StartsWith k c.args.bytes.now head → ⊥)
    (sym c.in-Request.is) (λ is head begins. c.look_for_request.ensures.part is head begins)

pub returns-in-Request-clause-never : goal.returns-in-Request-clause-never
returns-in-Request-clause-never c =
    subst (λ (k : Kind). c.look_for_request.result ≡ looks.Never → (more : List ℕ) (head : Head)
    → StartsWith k (c.args.bytes.now ++ more) head → ⊥)
    (sym c.in-Request.is) (λ is more head begins. c.look_for_request.ensures.never is more head begins)

pub returns-in-Response-clause-part : goal.returns-in-Response-clause-part
returns-in-Response-clause-part c =
    subst (λ (k : Kind). c.look_for_response.result ≡ looks.Part → (head : Head) → StartsWith k c.args.bytes.now head → ⊥)
    (sym c.in-Response.is) (λ is head begins. c.look_for_response.ensures.part is head begins)

pub returns-in-Response-clause-never : goal.returns-in-Response-clause-never
returns-in-Response-clause-never c =
    subst (λ (k : Kind). c.look_for_response.result ≡ looks.Never → (more : List ℕ) (head : Head)
    → StartsWith k (c.args.bytes.now ++ more) head → ⊥)
    (sym c.in-Response.is) (λ is more head begins. c.look_for_response.ensures.never is more head begins)
