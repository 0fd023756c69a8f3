-- The keys of a folder in an answer.
use Rattle.std.proofs.Common.{◌≡◌, ◌⊎◌, inl, inr, Option, Some, None, ◌<◌, ◌+◌, ℕ, zero, suc, ◌++◌, ◌∷◌, [], List, length, map, take, get_or, arith, refl, ap, sym, ◌∙◌, subst}
use Rattle.std.proofs.lemmas.List.{map_more}
use Rattle.json.specs.Json.{Json, Items, array, item}
use Rattle.json.specs.Value.{items_of}
use Rattle.etcd_wire.specs.Answer.{AreKeyVersions, IsKeyVersion, KeyVersion}

pub one_more : (js : List Json) (ks : List KeyVersion) (j : Json) (k : KeyVersion) → AreKeyVersions js ks → IsKeyVersion j k → AreKeyVersions (js ++ j ∷ []) (ks ++ k ∷ [])
one_more [] [] j k all is = (is, tt)
one_more [] (l ∷ ks) j k all is = absurd all
one_more (i ∷ js) [] j k all is = absurd all
one_more (i ∷ js) (l ∷ ks) j k all is = (all.0, one_more js ks j k all.1 is)

-- the list with one more of what comes
pub next_version : {A : Type 0} (f : A → Json) (vs : List A) (i : ℕ) (d : A) (ks new : List KeyVersion) (k : KeyVersion) → i < length vs → IsKeyVersion (f (get_or vs i d)) k → AreKeyVersions (map f (take i vs)) ks → new ≡ ks ++ k ∷ [] → AreKeyVersions (map f (take (i + 1) vs)) new
next_version f vs i d ks new k within is all made =
    subst (λ js. AreKeyVersions js new) (sym (map_more f vs i d within))
    (subst (AreKeyVersions (map f (take i vs) ++ f (get_or vs i d) ∷ [])) (sym made) (one_more (map f (take i vs)) ks (f (get_or vs i d)) k all is))

-- each of them is one
pub version_at : {A : Type 0} (f : A → Json) (vs : List A) (i : ℕ) (d : A) (ks : List KeyVersion) → i < length vs → AreKeyVersions (map f vs) ks → (k : KeyVersion) × IsKeyVersion (f (get_or vs i d)) k
version_at f [] i d ks within all = absurd (omega (arith, within))
version_at f (v ∷ vs) i d [] within all = absurd all
version_at f (v ∷ vs) zero d (k ∷ ks) within all = (k, all.0)
version_at f (v ∷ vs) (suc i) d (k ∷ ks) within all = version_at f vs i d ks (omega (arith, within)) all.1

head_same : (i j : Json) (a b : Items) → item i a ≡ item j b → i ≡ j
head_same i j a b same = cc same

tail_same : (i j : Json) (a b : Items) → item i a ≡ item j b → a ≡ b
tail_same i j a b same = cc same

pub same_items : (is js : List Json) → items_of is ≡ items_of js → is ≡ js
same_items [] [] same = refl
same_items [] (j ∷ js) same = absurd (cc same)
same_items (i ∷ is) [] same = absurd (cc same)
same_items (i ∷ is) (j ∷ js) same =
    ap (λ k. k ∷ is) (head_same i j _ _ same) ∙ ap (λ ks. j ∷ ks) (same_items is js (tail_same i j _ _ same))

pub same_array : (is js : List Json) → array (items_of is) ≡ array (items_of js) → is ≡ js
same_array is js same = same_items is js (cc same)

-- what was listed, where this is the list that stands in the answer
pub listed_so : (o : Option Json) (js : List Json) (ks : List KeyVersion) → o ≡ Some (array (items_of js)) → ((o ≡ None) × (ks ≡ [])) ⊎ ((kvs : List Json) × (o ≡ Some (array (items_of kvs))) × AreKeyVersions kvs ks) → AreKeyVersions js ks
listed_so o js ks is (inl none) = absurd (cc (sym is ∙ none.0))
listed_so o js ks is (inr listed) =
    subst (λ all. AreKeyVersions all ks) (same_array listed.0 js (cc (sym listed.1 ∙ is))) listed.2
