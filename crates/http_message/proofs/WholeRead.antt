-- A message that was read whole, and why none was.
use Rattle.std.proofs.Common.{◌≡◌, ◌∙◌, ℕ, List, ◌++◌, Option, IfSome, sym, subst, inl}
use Rattle.streams.specs.Counts.{Counts}
use Rattle.streams.specs.Streams.{traffic}
use Rattle.streams.specs.declared.refused.Refused.{Refused}
use Rattle.http_message.specs.Incoming.{IsLost, IsWanted, Says}
use Rattle.http_message.specs.Message.{CarriesWithin, HasHead, HasMethod, HasTarget, IsRefusedWithin}
use Rattle.http_message.specs.Reading.{Grows, HasRead, IsUnreadWithin}
use Rattle.http_message.specs.declared.kind.Kind.{Kind}
use Rattle.http_message.specs.declared.method.Method.{Method}
use Rattle.http_message.specs.declared.wanted.Need.{Need}
use Rattle.http_message.proofs.BytesRead.{all_read, read_then, whatever_follows}

-- the kind and the most, as a message in the making has them
other_names : (P : ℕ → Kind → Type 0) (most m : ℕ) (kind k : Kind) → m ≡ most → k ≡ kind → P m k → P most kind
other_names P most m kind k same_most same_kind p = subst (λ n. P n kind) same_most (subst (λ j. P m j) same_kind p)

pub carried : {T : Type 0} (known : T → Option (List ℕ)) (most m : ℕ) (kind k : Kind) (start : ℕ) (a b : Counts T)
    (bytes : List ℕ) (status : ℕ) (method : Option Method) (head target body : List ℕ) → m ≡ most → k ≡ kind
    → HasRead start (traffic known a b) bytes → Says m k bytes status method head target body
    → IfSome (known a.inner) (λ all. CarriesWithin most kind all status body)
carried known most m kind k start a b bytes status method head target body same_most same_kind read says =
    other_names (λ n j. IfSome (known a.inner) (λ all. CarriesWithin n j all status body)) most m kind k same_most same_kind
    (whatever_follows _ _ bytes read.taken (λ all. CarriesWithin m k all status body) says.carries)

pub targeted : {T : Type 0} (known : T → Option (List ℕ)) (m : ℕ) (kind k : Kind) (start : ℕ) (a b : Counts T)
    (bytes : List ℕ) (status : ℕ) (method : Option Method) (head target body : List ℕ) → k ≡ kind
    → HasRead start (traffic known a b) bytes → Says m k bytes status method head target body
    → IfSome (known a.inner) (λ all. HasTarget kind all target)
targeted known m kind k start a b bytes status method head target body same_kind read says =
    subst (λ j. IfSome (known a.inner) (λ all. HasTarget j all target)) same_kind
    (whatever_follows _ _ bytes read.taken (λ all. HasTarget k all target) says.targeted)

pub headed : {T : Type 0} (known : T → Option (List ℕ)) (m : ℕ) (kind k : Kind) (start : ℕ) (a b : Counts T)
    (bytes : List ℕ) (status : ℕ) (method : Option Method) (head target body : List ℕ) → k ≡ kind
    → HasRead start (traffic known a b) bytes → Says m k bytes status method head target body
    → IfSome (known a.inner) (λ all. HasHead kind all head)
headed known m kind k start a b bytes status method head target body same_kind read says =
    subst (λ j. IfSome (known a.inner) (λ all. HasHead j all head)) same_kind
    (whatever_follows _ _ bytes read.taken (λ all. HasHead k all head) says.headed)

pub asked : {T : Type 0} (known : T → Option (List ℕ)) (m : ℕ) (kind k : Kind) (start : ℕ) (a b : Counts T)
    (bytes : List ℕ) (status : ℕ) (method : Option Method) (head target body : List ℕ) → k ≡ kind
    → HasRead start (traffic known a b) bytes → Says m k bytes status method head target body
    → IfSome (known a.inner) (λ all. HasMethod kind all method)
asked known m kind k start a b bytes status method head target body same_kind read says =
    subst (λ j. IfSome (known a.inner) (λ all. HasMethod j all method)) same_kind
    (whatever_follows _ _ bytes read.taken (λ all. HasMethod k all method) says.asked)

-- what was read is refused, whatever follows
pub lost : {T : Type 0} (known : T → Option (List ℕ)) (most m : ℕ) (kind k : Kind) (start : ℕ) (a b : Counts T)
    (bytes : List ℕ) (e : Refused) → m ≡ most → k ≡ kind → HasRead start (traffic known a b) bytes → IsLost m k bytes e
    → IsUnreadWithin most kind start (traffic known a b) e
lost known most m kind k start a b bytes e same_most same_kind read is =
    other_names (λ n j. IsUnreadWithin n j start (traffic known a b) e) most m kind k same_most same_kind
    (inl (is.refusal, read.unfailed, whatever_follows _ _ bytes read.taken (λ all. IsRefusedWithin m k all e) is.always))

-- what was read is refused, since nothing follows
pub ended : {T : Type 0} (known : T → Option (List ℕ)) (most m : ℕ) (kind k : Kind) (start : ℕ) (a b c : Counts T)
    (bytes new : List ℕ) (count : ℕ) (w : Need) → m ≡ most → k ≡ kind
    → HasRead start (traffic known a b) bytes → IsWanted m k bytes w
    → Grows start (traffic known b c) bytes new count → count ≡ 0 → IsUnreadWithin most kind start (traffic known a c) w.refused
ended known most m kind k start a b c bytes new count w same_most same_kind read wanted grows zero =
    let end = grows.ended zero in
    let whole = read_then known start a b c bytes grows.gained.more read grows.gained.read in
    other_names (λ n j. IsUnreadWithin n j start (traffic known a c) w.refused) most m kind k same_most same_kind
    (inl (
      wanted.refusal,
      whole.unfailed,
      all_read _ _ (bytes ++ grows.gained.more) whole.taken end.ended (λ all. IsRefusedWithin m k all w.refused)
          (subst (λ all. IsRefusedWithin m k all w.refused) (sym end.same ∙ grows.gained.grown) wanted.ended),
    ))
