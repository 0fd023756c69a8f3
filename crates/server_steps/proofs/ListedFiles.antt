-- Controllers that etcd lists.
use Rattle.std.proofs.Common.{◌≡◌, ◌<◌, ◌+◌, ◌++◌, ◌∙◌, ℕ, List, [], ◌∷◌, ap, get_or, inl, inr, length, refl, subst, sym, take}
use Rattle.std.proofs.lemmas.List.{take_more}
use Rattle.std.proofs.lemmas.List.Elements.{All-nil, All-push}
use Rattle.etcd_wire.specs.Answer.{KeyVersion}
use Rattle.server_steps.specs.Listed.{AddsAllListed, AddsListed, AreListed, IsListed}
use Rattle.server_steps.specs.declared.watched.MarkedFile.{MarkedFile}

module _ (path name : List ℕ) where
  more_listed : (k : KeyVersion) (old new : List MarkedFile) → AreListed path name old → AddsListed path name k old new → AreListed path name new
  more_listed k old new are (inl (unlisted, same)) = subst (AreListed path name) (sym same) are
  more_listed k old new are (inr (file, is, behind)) =
      subst (AreListed path name) (sym behind) (All-push (λ f. (v : KeyVersion) × IsListed path name v f) old file are (k, is))

  all_listed : (ks : List KeyVersion) (old new : List MarkedFile) → AddsAllListed path name ks old new → AreListed path name old → AreListed path name new
  all_listed [] old new same are = subst (AreListed path name) (sym same) are
  all_listed (k ∷ ks) old new all are = all_listed ks all.0 new all.2 (more_listed k old all.0 are all.1)

  -- each of those of keys is that of one
  pub each_listed : (ks : List KeyVersion) (files : List MarkedFile) → AddsAllListed path name ks [] files → AreListed path name files
  each_listed ks files all = all_listed ks [] files all (All-nil (λ f. (v : KeyVersion) × IsListed path name v f))

  one_more : (ks : List KeyVersion) (k : KeyVersion) (old mid new : List MarkedFile) → AddsAllListed path name ks old mid → AddsListed path name k mid new → AddsAllListed path name (ks ++ k ∷ []) old new
  one_more [] k old mid new same is = (new, subst (λ files. AddsListed path name k files new) same is, refl)
  one_more (j ∷ ks) k old mid new all is = (all.0, all.1, one_more ks k all.0 mid new all.2 is)

  -- one more
  pub next_listed : (keys : List KeyVersion) (i : ℕ) (k : KeyVersion) (old mid new : List MarkedFile) → i < length keys → k ≡ get_or keys i k → AddsAllListed path name (take i keys) old mid → AddsListed path name k mid new → AddsAllListed path name (take (i + 1) keys) old new
  next_listed keys i k old mid new within is all one =
      subst (λ ks. AddsAllListed path name ks old new) (sym (take_more keys i k within ∙ ap (λ x. take i keys ++ x ∷ []) (sym is))) (one_more (take i keys) k old mid new all one)
