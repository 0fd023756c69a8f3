-- What names no controller in a folder, and what is the key of none.
use Rattle.std.proofs.Common.{◌≡◌, ◌≢◌, ◌<◌, ◌&&◌, ◌++◌, ◌∙◌, ℕ, zero, suc, Bool, true, false, List, [], ◌∷◌, Option, None, Some, ap, append_assoc, arith, drop, get_or, inl, inr, is_some, length, refl, string_bytes, subst, sym}
use Rattle.std.specs.Prelude.{codes}
use Rattle.std.specs.List.{list_all}
use Rattle.std.proofs.lemmas.Bool.{true≢false}
use Rattle.std.proofs.lemmas.List.{append_cancel_left}
use Rattle.ticket_items.specs.Names.{is_name, is_name_part, is_name_start}
use Rattle.shop_folder.specs.Routes.{file_for}
use Rattle.shop_folder.specs.declared.lies.Lies.TheVariants.{File, Folder}
use Rattle.etcd_place.specs.Folder.{IsBelow, folder_key}
use Rattle.etcd_wire.specs.Answer.{KeyVersion}
use Rattle.server_steps.specs.Listed.{IsUnlisted}
use Rattle.server_steps.specs.Routes.{LeadsInFolder, LeadsNowhereIn}
use Rattle.server_steps.proofs.NamedFiles.{file_named, worker_named}

-- ---- a `/`

-- none of these is one
abbrev pub NoSlash : List ℕ → Type 0
NoSlash text = (i : ℕ) → i < length text → get_or text i 0 ≢ 47

both : (a b : Bool) → (a && b) ≡ true → (a ≡ true) × (b ≡ true)
both true b is = (refl, is)
both false b is = absurd (true≢false (sym is))

first_two : (a b d : Bool) → (a && b && d) ≡ true → (a ≡ true) × (b ≡ true)
first_two true true d is = (refl, refl)
first_two true false d is = absurd (true≢false (sym is))
first_two false b d is = absurd (true≢false (sym is))

no_part : (text : List ℕ) → list_all is_name_part text ≡ true → NoSlash text
no_part [] is i low same = absurd (omega (arith, low))
no_part (c ∷ cs) is zero low same =
    true≢false (sym (both (is_name_part c) (list_all is_name_part cs) is).0 ∙ ap is_name_part same)
no_part (c ∷ cs) is (suc i) low same =
    no_part cs (both (is_name_part c) (list_all is_name_part cs) is).1 i (omega (arith, low)) same

-- a name has none
no_slash : (text : List ℕ) → is_name text ≡ true → NoSlash text
no_slash [] is i low same = true≢false (sym is)
no_slash (c ∷ cs) is zero low same =
    true≢false (sym (first_two (is_name_start c) (list_all is_name_part cs) _ is).0 ∙ ap is_name_start same)
no_slash (c ∷ cs) is (suc i) low same =
    no_part cs (first_two (is_name_start c) (list_all is_name_part cs) _ is).1 i (omega (arith, low)) same

within : (front rest : List ℕ) → length front < length (front ++ 47 ∷ rest)
within [] rest = omega arith
within (c ∷ front) rest = let less = within front rest in omega (arith, less)

there : (front rest : List ℕ) → get_or (front ++ 47 ∷ rest) (length front) 0 ≡ 47
there [] rest = refl
there (c ∷ front) rest = there front rest

-- what has one has one
has_slash : (text front rest : List ℕ) → text ≡ front ++ 47 ∷ rest → NoSlash text → ⊥
has_slash text front rest is free =
    subst NoSlash is free (length front) (within front rest) (there front rest)

behind : (c : ℕ) (text : List ℕ) → NoSlash (c ∷ text) → NoSlash text
behind c text free i low = free (suc i) (omega (arith, low))

-- the first one parts a text in one way
same_parts : (front rest front2 rest2 : List ℕ) → NoSlash front → NoSlash front2 → front ++ 47 ∷ rest ≡ front2 ++ 47 ∷ rest2 → (front ≡ front2) × (rest ≡ rest2)
same_parts [] rest [] rest2 free free2 is = (refl, ap (drop 1) is)
same_parts [] rest (d ∷ front2) rest2 free free2 is =
    absurd (free2 0 (omega arith) (sym (ap (λ text. get_or text 0 0) is)))
same_parts (c ∷ front) rest [] rest2 free free2 is =
    absurd (free 0 (omega arith) (ap (λ text. get_or text 0 0) is))
same_parts (c ∷ front) rest (d ∷ front2) rest2 free free2 is =
    let same = same_parts front rest front2 rest2 (behind c front free) (behind d front2 free2) (ap (drop 1) is) in
    let head : c ≡ d = ap (λ text. get_or text 0 0) is in
    ((λ i. head i ∷ same.0 i), same.1)

-- ---- a name

none_some : (file : Option (List ℕ)) (path : List ℕ) → file ≡ None → file ≡ Some path → ⊥
none_some file path none some = true≢false (ap is_some (sym some ∙ none))

-- one without a slash, of which there is no file
pub nowhere_named : (folder name : List ℕ) → NoSlash name → file_for folder File name name ≡ None → LeadsNowhereIn folder name
nowhere_named folder name free none r (inl is) = none_some (file_for folder File name name) (string_bytes r.path) none is.file
nowhere_named folder name free none r (inr (worker, master, told, is)) =
    has_slash name worker master (told ∙ append_assoc worker (47 ∷ []) master) free

-- one of two parts, of which there is no file
pub nowhere_parted : (folder name worker master : List ℕ) → name ≡ worker ++ 47 ∷ master → NoSlash worker → file_for folder Folder worker master ≡ None → LeadsNowhereIn folder name
nowhere_parted folder name worker master told free none r (inl is) =
    has_slash name worker master told (no_slash name (file_named folder name (string_bytes r.path) (sym is.file)))
nowhere_parted folder name worker master told free none r (inr (other, owner, so, is)) =
    let named = worker_named folder other owner (string_bytes r.path) (sym is.file) in
    let same = same_parts worker master other owner free (no_slash other named) (sym told ∙ so ∙ append_assoc other (47 ∷ []) owner) in
    none_some (file_for folder Folder worker master) (string_bytes r.path) none ((λ i. file_for folder Folder (same.0 i) (same.1 i)) ∙ is.file)

-- ---- a key

-- one that isn't below the folder
pub unlisted_outside : (path name : List ℕ) (k : KeyVersion) → ((rest : List ℕ) → IsBelow name k.key rest → ⊥) → IsUnlisted path name k
unlisted_outside path name k outside file is = outside is.rest is.below

-- one whose name leads nowhere
pub unlisted_nowhere : (path name rest : List ℕ) (k : KeyVersion) → IsBelow name k.key rest → LeadsNowhereIn path rest → IsUnlisted path name k
unlisted_nowhere path name rest k below nowhere file is =
    let same : is.rest ≡ rest = append_cancel_left (folder_key name ++ codes "/") is.rest rest (sym is.below.1 ∙ below.1) in
    nowhere file.route (subst (λ behind. LeadsInFolder path behind file.route) same is.leads)
