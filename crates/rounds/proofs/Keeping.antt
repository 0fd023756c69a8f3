-- Controllers that are kept by the paths of their files.
use Rattle.std.proofs.Common.{◌≡◌, ◌∙◌, ◌++◌, ◌-◌, ℕ, true, false, List, [], ◌∷◌, None, append_assoc, ap, cond, refl, subst, suc, sym, take, zero}
use Rattle.std.specs.Prelude.{String, string_bytes}
use Rattle.std.specs.declared.alloc.Global.{Global}
use Rattle.std.specs.Map.{lookup_entry}
use Rattle.std.specs.Str.{bytes_eq}
use Rattle.std.specs.String.{string_eq}
use Rattle.std.proofs.lemmas.Slice.Eq.{bytes_eq-Decides}
use Rattle.lru.specs.LruCache.{LruCache, lru_cache, put_entries}
use Rattle.stored_state.specs.declared.any_controller.AnyController.{AnyController}
use Rattle.rounds.specs.Kept.{IsFront, IsUnique, controller_of_path, other_paths}

-- ---- the others of a path

none_other : (q path : List ℕ) (kept : List (String Global × AnyController)) → controller_of_path q kept ≡ None → controller_of_path q (other_paths path kept) ≡ None
none_other q path [] none = refl
none_other q path (e ∷ kept) none =
    (elim (bytes_eq q (string_bytes e.0)) as (λ b. bytes_eq q (string_bytes e.0) ≡ b → controller_of_path q (other_paths path (e ∷ kept)) ≡ None) [
      | true ↦ λ is. let h = rw is at none in cc
      | false ↦ λ is. let h : controller_of_path q kept ≡ None = rw is at none in
          (elim (bytes_eq path (string_bytes e.0)) as (λ b. controller_of_path q (cond b kept (e ∷ other_paths path kept)) ≡ None) [
            | true ↦ h
            | false ↦ rw is (none_other q path kept h)
          ])
    ]) refl

pub others_unique : (path : List ℕ) (kept : List (String Global × AnyController)) → IsUnique kept → IsUnique (other_paths path kept)
others_unique path [] u = u
others_unique path (e ∷ kept) u =
    elim (bytes_eq path (string_bytes e.0)) as (λ b. IsUnique (cond b kept (e ∷ other_paths path kept))) [
      | true ↦ u.1
      | false ↦ (none_other (string_bytes e.0) path kept u.0, others_unique path kept u.1)
    ]

-- nothing is kept for the path itself
pub none_left : (path : List ℕ) (kept : List (String Global × AnyController)) → IsUnique kept → controller_of_path path (other_paths path kept) ≡ None
none_left path [] u = refl
none_left path (e ∷ kept) u =
    (elim (bytes_eq path (string_bytes e.0)) as (λ b. bytes_eq path (string_bytes e.0) ≡ b → controller_of_path path (cond b kept (e ∷ other_paths path kept)) ≡ None) [
      | true ↦ λ is. subst (λ (q : List ℕ). controller_of_path q kept ≡ None) (sym ((bytes_eq-Decides path (string_bytes e.0)).0 is)) u.0
      | false ↦ λ is. rw is (none_left path kept u.1)
    ]) refl

-- where nothing is kept for a path, the others are all
pub all_others : (path : List ℕ) (kept : List (String Global × AnyController)) → controller_of_path path kept ≡ None → other_paths path kept ≡ kept
all_others path [] none = refl
all_others path (e ∷ kept) none =
    (elim (bytes_eq path (string_bytes e.0)) as (λ b. bytes_eq path (string_bytes e.0) ≡ b → other_paths path (e ∷ kept) ≡ e ∷ kept) [
      | true ↦ λ is. let h = rw is at none in cc
      | false ↦ λ is. rw is (ap (λ es. e ∷ es) (all_others path kept (rw is at none)))
    ]) refl

-- ---- a front

none_front : (q : List ℕ) (new gone : List (String Global × AnyController)) → controller_of_path q (new ++ gone) ≡ None → controller_of_path q new ≡ None
none_front q [] gone none = refl
none_front q (e ∷ new) gone none =
    (elim (bytes_eq q (string_bytes e.0)) as (λ b. bytes_eq q (string_bytes e.0) ≡ b → controller_of_path q (e ∷ new) ≡ None) [
      | true ↦ λ is. let h = rw is at none in cc
      | false ↦ λ is. rw is (none_front q new gone (rw is at none))
    ]) refl

unique_front : (new gone : List (String Global × AnyController)) → IsUnique (new ++ gone) → IsUnique new
unique_front [] gone u = tt
unique_front (e ∷ new) gone u = (none_front (string_bytes e.0) new gone u.0, unique_front new gone u.1)

pub front_unique : (new old : List (String Global × AnyController)) → IsFront new old → IsUnique old → IsUnique new
front_unique new old front u = unique_front new front.0 (subst IsUnique front.1 u)

pub front_take : (n : ℕ) (kept : List (String Global × AnyController)) → IsFront (take n kept) kept
front_take zero kept = (kept, refl)
front_take (suc n) [] = ([], refl)
front_take (suc n) (e ∷ kept) =
    let rest = front_take n kept in (rest.0, ap (λ es. e ∷ es) rest.1)

pub front_more : (new mid old : List (String Global × AnyController)) → IsFront new mid → IsFront mid old → IsFront new old
front_more new mid old after before =
    (after.0 ++ before.0, before.1 ∙ ap (λ es. es ++ before.0) after.1 ∙ append_assoc new after.0 before.0)

-- without the last
pub front_less : (new mid old : List (String Global × AnyController)) (n : ℕ) → IsFront mid old → IsUnique mid → new ≡ take n mid → IsFront new old × IsUnique new
front_less new mid old n front u is =
    let less : IsFront new mid = subst (λ (es : List (String Global × AnyController)). IsFront es mid) (sym is) (front_take n mid) in
    (front_more new mid old less front, front_unique new mid less u)

-- ---- what is put

no_entry : (path : String Global) (kept : List (String Global × AnyController)) → controller_of_path (string_bytes path) kept ≡ None → lookup_entry (string_eq path) kept ≡ None
no_entry path [] none = refl
no_entry path (e ∷ kept) none =
    (elim (bytes_eq (string_bytes path) (string_bytes e.0)) as (λ b. bytes_eq (string_bytes path) (string_bytes e.0) ≡ b → lookup_entry (string_eq path) (e ∷ kept) ≡ None) [
      | true ↦ λ is. let h = rw is at none in cc
      | false ↦ λ is. rw is (no_entry path kept (rw is at none))
    ]) refl

-- what is put for a path for which nothing is kept goes first
pub put_front : (path : String Global) (c : AnyController) (cache : LruCache (String Global) AnyController) → controller_of_path (string_bytes path) cache.entries ≡ None → IsFront (put_entries string_eq cache path c) ((path, c) ∷ cache.entries)
put_front path c cache none =
    rw (no_entry path cache.entries none)
    (let rest = front_take (cache.cap - 1) cache.entries in (rest.0, ap (λ es. (path, c) ∷ es) rest.1))

pub put_first : (path : String Global) (c : AnyController) (cache new : LruCache (String Global) AnyController) (cap : ℕ) → controller_of_path (string_bytes path) cache.entries ≡ None → new ≡ lru_cache (put_entries string_eq cache path c) cap → IsFront new.entries ((path, c) ∷ cache.entries)
put_first path c cache new cap none is =
    subst (λ (s : LruCache (String Global) AnyController). IsFront s.entries ((path, c) ∷ cache.entries)) (sym is) (put_front path c cache none)
