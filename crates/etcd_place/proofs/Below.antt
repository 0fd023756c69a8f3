-- Keys of the values in a folder.
use Rattle.std.proofs.Common.{◌≡◌, ◌≢◌, ℕ, suc, ◌==◌, true, false, List, [], ◌∷◌, ◌++◌, length, Option, Some, None, Bor, Result, Ok, Err, MatchOption, MatchResult, subst, sym, ap, ◌∙◌, arith}
use Rattle.std.specs.Prelude.{codes, IsUtf8}
use Rattle.std.specs.Result.{result_ok}
use Rattle.std.specs.Str.Pattern.{FindsTextPrefix, StripsPrefix}
use Rattle.std.proofs.lemmas.Bool.{false≢true}
use Rattle.std.proofs.lemmas.Bool.Decides.{Decides-eqb}
use Rattle.std.proofs.lemmas.List.{append_assoc, append_cancel_left}
use Rattle.etcd_place.specs.Folder.{IsBelow}

-- a call gave nothing
pub gave_none : {X A : Type 0} (B : X → Type 0) (r : Option X) → r ≡ None → A → MatchOption r A B
gave_none {A = A} B r is holds = subst (λ o. MatchOption o A B) (sym is) holds

read_so : {E : Type 0} (Q : E → Type 0) (key : List ℕ) (r : Result (Bor (List ℕ)) E) → MatchResult r (λ s. (s.now ≡ key) × IsUtf8 key) (λ e. ¬ (IsUtf8 key) × Q e) → MatchOption (result_ok r) (¬ (IsUtf8 key)) (λ s. (s.now ≡ key) × IsUtf8 key)
read_so Q key (Ok s) read = read
read_so Q key (Err e) read = read.0

-- what `from_utf8` says of a key
pub read_key : {E : Type 0} (Q : E → Type 0) (key : List ℕ) (found : Option (Bor (List ℕ))) (r : Result (Bor (List ℕ)) E) → found ≡ result_ok r → MatchResult r (λ s. (s.now ≡ key) × IsUtf8 key) (λ e. ¬ (IsUtf8 key) × Q e) → MatchOption found (¬ (IsUtf8 key)) (λ s. (s.now ≡ key) × IsUtf8 key)
read_key Q key found r is read = subst (λ o. MatchOption o (¬ (IsUtf8 key)) (λ s. (s.now ≡ key) × IsUtf8 key)) (sym is) (read_so Q key r read)

-- what `strip_prefix` says of a text
pub stripped : (front text : List ℕ) (r : Option (Bor (List ℕ))) → MatchOption r (FindsTextPrefix front text None) (λ x. StripsPrefix (FindsTextPrefix front) text x.now) → MatchOption r ((rest : List ℕ) → text ≢ front ++ rest) (λ x. text ≡ front ++ x.now)
stripped front text None lacks = lacks
stripped front text (Some x) strips = strips.1.1 ∙ ap (λ rest. front ++ rest) (sym strips.2)

-- a key that doesn't begin so is of no folder
pub outside : (name key : List ℕ) → ((rest : List ℕ) → key ≢ codes "toarnbif/" ++ rest) → (rest : List ℕ) → IsBelow name key rest → ⊥
outside [] key lacks rest below = lacks rest below.1
outside (c ∷ name) key lacks rest below = lacks ((c ∷ name) ++ codes "/" ++ rest) below.1

-- in the folder of all names
pub in_whole : (name key rest : List ℕ) → (length name == 0) ≡ true → IsUtf8 key → key ≡ codes "toarnbif/" ++ rest → IsBelow name key rest
in_whole [] key rest whole is_text is = (is_text, is)
in_whole (c ∷ name) key rest whole is_text is =
    let none : suc (length name) ≡ 0 = (Decides-eqb (suc (length name)) 0).0 whole in
    absurd (omega (arith, none))

-- in the folder of a name
pub in_named : (name key text more rest : List ℕ) → (length name == 0) ≡ false → IsUtf8 key → key ≡ codes "toarnbif/" ++ text → text ≡ name ++ more → more ≡ codes "/" ++ rest → IsBelow name key rest
in_named [] key text more rest named is_text is front behind = absurd (false≢true (sym named))
in_named (c ∷ name) key text more rest named is_text is front behind =
    (is_text, is ∙ ap (λ t. codes "toarnbif/" ++ t) (front ∙ ap (λ m. (c ∷ name) ++ m) behind ∙ sym (append_assoc (c ∷ name) (codes "/") rest)))

parted : (c : ℕ) (name key text rest : List ℕ) → key ≡ codes "toarnbif/" ++ text → IsBelow (c ∷ name) key rest → text ≡ (c ∷ name) ++ (codes "/" ++ rest)
parted c name key text rest is below =
    append_cancel_left (codes "toarnbif/") text ((c ∷ name) ++ codes "/" ++ rest) (sym is ∙ below.1) ∙ append_assoc (c ∷ name) (codes "/") rest

-- a key of another name
pub not_named : (name key text : List ℕ) → (length name == 0) ≡ false → key ≡ codes "toarnbif/" ++ text → ((more : List ℕ) → text ≢ name ++ more) → (rest : List ℕ) → IsBelow name key rest → ⊥
not_named [] key text named is lacks rest below = absurd (false≢true (sym named))
not_named (c ∷ name) key text named is lacks rest below = lacks (codes "/" ++ rest) (parted c name key text rest is below)

-- or with no `/` behind the name
pub not_below : (name key text more : List ℕ) → (length name == 0) ≡ false → key ≡ codes "toarnbif/" ++ text → text ≡ name ++ more → ((rest : List ℕ) → more ≢ codes "/" ++ rest) → (rest : List ℕ) → IsBelow name key rest → ⊥
not_below [] key text more named is front lacks rest below = absurd (false≢true (sym named))
not_below (c ∷ name) key text more named is front lacks rest below =
    lacks rest (append_cancel_left (c ∷ name) more (codes "/" ++ rest) (sym front ∙ parted c name key text rest is below))

-- behind the name, as `strip_prefix` says
pub behind_name : (name key text more : List ℕ) (r : Option (Bor (List ℕ))) → (length name == 0) ≡ false → IsUtf8 key → key ≡ codes "toarnbif/" ++ text → text ≡ name ++ more → MatchOption r (FindsTextPrefix (codes "/") more None) (λ x. StripsPrefix (FindsTextPrefix (codes "/")) more x.now) → MatchOption r ((rest : List ℕ) → IsBelow name key rest → ⊥) (λ x. IsBelow name key x.now)
behind_name name key text more None named is_text is front strips = not_below name key text more named is front (stripped (codes "/") more None strips)
behind_name name key text more (Some x) named is_text is front strips = in_named name key text more x.now named is_text is front (stripped (codes "/") more (Some x) strips)
