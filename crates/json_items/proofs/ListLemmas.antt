-- Lists that are read item by item.
use Rattle.std.proofs.Common.{◌≡◌, ℕ, zero, suc, ◌<◌, List, [], ◌∷◌, ◌++◌, ◌+◌, length, get_or, map, take, Option, Some, None, Result, Ok, Err, refl, sym, ap, ◌∙◌, subst, arith, Bool}
use Rattle.std.proofs.lemmas.List.{take_more}
use Rattle.std.specs.Option.{option_map}
use Rattle.std.specs.Prelude.{IsErrAnd}
use Rattle.serde_json.specs.Data.{Data}
use Rattle.serde_json.specs.View.{items_of}
use Rattle.ticket_items.specs.declared.refusal.Refusal.{Refusal}
use Rattle.ticket_items.specs.declared.refusal.Refusal.TheVariants.{Memory, NotProfile}
use Rattle.json_items.specs.Validation.{Reads}
use Rattle.json_items.specs.Listed.{items_read, one_more}
use Rattle.json_source.specs.Read.{◌>>=◌, Fails}

-- ---- read

none_later : {Y : Type 0} (o : Option Y) (rest : Option (List Y)) → rest ≡ None → (o >>= λ z. option_map (λ zs. z ∷ zs) rest) ≡ None
none_later None rest e = refl
none_later (Some y) rest e = ap (option_map (λ zs. y ∷ zs)) e

pub items_read-none : {V Y : Type 0} (content : V → Data) (form : Data → Option Y) (vs : List V) (i : ℕ) (d : V) → i < length vs → form (content (get_or vs i d)) ≡ None → items_read form (items_of (map content vs)) ≡ None
items_read-none content form [] i d within none = absurd (omega (arith, within))
items_read-none content form (v ∷ vs) zero d within none = ap (λ o. o >>= λ z. option_map (λ zs. z ∷ zs) (items_read form (items_of (map content vs)))) none
items_read-none content form (v ∷ vs) (suc i) d within none = none_later (form (content v)) (items_read form (items_of (map content vs))) (items_read-none content form vs i d (omega arith) none)

-- what fails as a part fails as a whole
pub Fails-weaker : {X Y : Type 0} (e : Refusal) (o : Option X) (p : Option Y) → (o ≡ None → p ≡ None) → Fails e o → Fails e p
Fails-weaker Memory o p f h = tt
Fails-weaker NotProfile o p f h = f h
Fails-weaker e o p f h = absurd h

-- a value that can't be read
pub Fails-items_read : {V Y : Type 0} (content : V → Data) (e : Refusal) (form : Data → Option Y) (vs : List V) (i : ℕ) (v : V) → i < length vs → v ≡ get_or vs i v → Fails e (form (content v)) → Fails e (items_read form (items_of (map content vs)))
Fails-items_read content e form vs i v within is fails =
    Fails-weaker e (form (content v)) (items_read form (items_of (map content vs))) (λ none. items_read-none content form vs i v within (ap (λ w. form (content w)) (sym is) ∙ none)) fails

-- ---- found

one_first : {X : Type 0} (o : Option X) → (o >>= λ x. option_map (λ xs. x ∷ xs) (Some [])) ≡ one_more (Some []) o
one_first None = refl
one_first (Some x) = refl

one_behind : {X : Type 0} (o : Option X) (rest : Option (List X)) (next : Option X) → (o >>= λ x. option_map (λ xs. x ∷ xs) (one_more rest next)) ≡ one_more (o >>= λ x. option_map (λ xs. x ∷ xs) rest) next
one_behind None rest next = refl
one_behind (Some x) None next = refl
one_behind (Some x) (Some xs) None = refl
one_behind (Some x) (Some xs) (Some y) = refl

-- one more is read behind all before it
pub items_read-behind : {V X : Type 0} (content : V → Data) (form : Data → Option X) (vs : List V) (v : V) → items_read form (items_of (map content (vs ++ v ∷ []))) ≡ one_more (items_read form (items_of (map content vs))) (form (content v))
items_read-behind content form [] v = one_first (form (content v))
items_read-behind content form (w ∷ vs) v =
    ap (λ rest. form (content w) >>= λ x. option_map (λ xs. x ∷ xs) rest) (items_read-behind content form vs v)
    ∙ one_behind (form (content w)) (items_read form (items_of (map content vs))) (form (content v))

-- one more is read behind those so far
pub items_read-more : {V X : Type 0} (content : V → Data) (form : Data → Option X) (vs : List V) (i : ℕ) (v : V) → i < length vs → v ≡ get_or vs i v
    → items_read form (items_of (map content (take (i + 1) vs))) ≡ one_more (items_read form (items_of (map content (take i vs)))) (form (content v))
items_read-more content form vs i v within is =
    ap (λ us. items_read form (items_of (map content us))) (take_more vs i v within ∙ ap (λ u. take i vs ++ u ∷ []) (sym is))
    ∙ items_read-behind content form (take i vs) v

-- a refusal in place of what is found
pub Reads-failed : {X : Type 0} (names texts : X → Bool) (r : Result (Result X Refusal) Refusal) (e : Refusal) (o : Option X) → IsErrAnd r (λ f. f ≡ e) → Fails e o → Reads names texts r o
Reads-failed names texts (Ok x) e o same fails = absurd same
Reads-failed names texts (Err f) e o same fails = subst (λ g. Fails g o) (sym same) fails
