-- The destinations by their numbers.
use Rattle.std.proofs.Common.{◌≡◌, ◌∙◌, ◌<◌, ◌+◌, ℕ, zero, suc, false, List, [], ◌∷◌, ◌++◌, Option, None, Some, Result, Ok, Err, IfOk, IfSome, is_some, String, ap, bytes_eq, get_or, length, map, position, refl, slice_get, string_bytes, string_eq, subst, sym, arith}
use Rattle.std.proofs.lemmas.List.Quantifiers.{position-Some}
use Rattle.std.proofs.lemmas.Slice.Eq.{bytes_eq-Decides}
use Rattle.std.specs.HashMap.{get_by_text, keys}
use Rattle.std.specs.Map.{keys_of}
use Rattle.std.specs.declared.alloc.Global.{Global}
use Rattle.indexmap.proofs.CallerLemmas.{insert_entry-new}
use Rattle.indexmap.specs.IndexMap.{insert_entry}
use Rattle.peers_file.specs.Table.{IsUrlOf, Rows}
use Rattle.courier.specs.Destination.{Destination}
use Rattle.server_post.specs.Lines.{IsLineOf, IsPaired, Targets, texts_of, url_text}
use Rattle.url.specs.Parts.{Parts}

text_at : (ks : List (String Global)) (i : ℕ) (d : String Global) → i < length ks → slice_get (map (λ k. string_bytes k) ks) i ≡ Some (string_bytes (get_or ks i d))
text_at [] i d within = absurd (omega arith)
text_at (k ∷ ks) zero d within = refl
text_at (k ∷ ks) (suc i) d within = text_at ks i d (omega arith)

-- the text that is found stands at that place
pub text_found : (ks : List (String Global)) (text : List ℕ) (i : ℕ) (d : String Global) → position (λ k. bytes_eq text (string_bytes k)) ks ≡ Some i → slice_get (map (λ k. string_bytes k) ks) i ≡ Some text
text_found ks text i d found =
    let at = position-Some (λ k. bytes_eq text (string_bytes k)) ks i d found in
    text_at ks i d at.0 ∙ ap Some (sym ((bytes_eq-Decides text (string_bytes (get_or ks i d))).0 at.1))

last_text : (es : List (String Global × Parts)) (k : String Global) (v : Parts) → slice_get (map (λ k. string_bytes k) (keys_of (es ++ (k, v) ∷ []))) (length (keys_of es)) ≡ Some (string_bytes k)
last_text [] k v = refl
last_text (e ∷ es) k v = last_text es k v

last_length : (es : List (String Global × Parts)) (k : String Global) (v : Parts) → length (keys_of (es ++ (k, v) ∷ [])) ≡ length (keys_of es) + 1
last_length [] k v = refl
last_length (e ∷ es) k v = omega (arith, last_length es k v)

length_push : (ds : List Destination) (d : Destination) → length (ds ++ d ∷ []) ≡ length ds + 1
length_push [] d = refl
length_push (x ∷ ds) d = omega (arith, length_push ds d)

module _ {S : Type 0} (old mid new : Targets S) (k : String Global) (v : Parts) where
  pushed : get_by_text old (string_bytes k) ≡ None → mid.entries ≡ old.entries → new.entries ≡ insert_entry string_eq mid.entries k v → new.entries ≡ old.entries ++ (k, v) ∷ []
  pushed none same put =
      put ∙ ap (λ es. insert_entry string_eq es k v) same ∙ insert_entry-new string_eq old k v none

  -- a new one has the next number
  pub line_last : get_by_text old (string_bytes k) ≡ None → mid.entries ≡ old.entries → new.entries ≡ insert_entry string_eq mid.entries k v → (line : ℕ) (ds : List Destination) → line ≡ length ds → IsPaired old ds → slice_get (texts_of new) line ≡ Some (string_bytes k)
  line_last none same put line ds number paired =
      ap (λ i. slice_get (texts_of new) i) (number ∙ sym paired)
      ∙ ap (λ es. slice_get (map (λ k. string_bytes k) (keys_of es)) (length (keys old))) (pushed none same put)
      ∙ last_text old.entries k v

  -- and there is one destination more, too
  pub paired_last : get_by_text old (string_bytes k) ≡ None → mid.entries ≡ old.entries → new.entries ≡ insert_entry string_eq mid.entries k v → (ds after : List Destination) (d : Destination) → after ≡ ds ++ d ∷ [] → IsPaired old ds → IsPaired new after
  paired_last none same put ds after d more paired =
      ap (λ es. length (keys_of es)) (pushed none same put)
      ∙ last_length old.entries k v
      ∙ ap (λ n. n + 1) paired
      ∙ sym (length_push ds d)
      ∙ ap length (sym more)

is_none : (o : Option Parts) → is_some o ≡ false → o ≡ None
is_none None said = refl
is_none (Some x) said = absurd (cc)

module _ {S : Type 0} (targets : Targets S) where
  -- a text that isn't found is that of none
  pub absent : (text key : List ℕ) (r : Option ℕ) → key ≡ text → r ≡ None → is_some r ≡ is_some (get_by_text targets key) → get_by_text targets text ≡ None
  absent text key r same none found =
      ap (get_by_text targets) (sym same) ∙ is_none (get_by_text targets key) (sym found ∙ ap is_some none)

  -- the number that is found
  pub line_found : (name : List ℕ) (peers : Rows) (line : ℕ) (url : Parts) (text key : List ℕ) (r : Option ℕ) (d : String Global) → IsUrlOf name peers (Some url) → text ≡ url_text url → key ≡ text → r ≡ Some line → r ≡ position (λ k. bytes_eq key (string_bytes k)) (keys targets) → IsLineOf name peers targets line
  line_found name peers line url text key r d its is same found index =
      record {
        url = url;
        its = its;
        there = text_found (keys targets) key line d (sym index ∙ found) ∙ ap Some (same ∙ is);
      }

  -- that of one more
  pub line_new : {E : Type 0} (r : Result (Option ℕ) E) (name : List ℕ) (peers : Rows) (url : Parts) (text : List ℕ) → IsUrlOf name peers (Some url) → text ≡ url_text url → IfOk r (λ found. IfSome found (λ line. slice_get (texts_of targets) line ≡ Some text)) → IfOk r (λ found. IfSome found (IsLineOf name peers targets))
  line_new (Ok (Some line)) name peers url text its is there = record { url = url; its = its; there = there ∙ ap Some is }
  line_new (Ok None) name peers url text its is there = tt
  line_new (Err e) name peers url text its is there = tt

pub url_known : (said name : List ℕ) (peers : Rows) (o : Option Parts) (url : Parts) → said ≡ name → IsUrlOf said peers o → o ≡ Some url → IsUrlOf name peers (Some url)
url_known said name peers o url same its is =
    subst (λ n. IsUrlOf n peers (Some url)) same (subst (λ p. IsUrlOf said peers p) is its)
