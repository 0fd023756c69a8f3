-- The steps by what no client waits for at a path: under its key, or in its file.
use Rattle.std.proofs.Common.{◌≡◌, ℕ, List, Option, Some, None, Result, Ok, Err, IfOk, IfSome, false, refl, subst, sym, true}
use Rattle.keepers.specs.InFile.{InFile}
use Rattle.keepers.specs.OnDisk.{OnDisk}
use Rattle.keepers.specs.SystemFile.{file_bytes, is_honest, keep_in_file}
use Rattle.keepers.specs.declared.keep_fault.KeepFault.{KeepFault}
use Rattle.stored_state.specs.declared.addressee.Addressee.{Addressee}
use Rattle.stored_state.specs.declared.any_controller.AnyController.{AnyController}
use Rattle.stored_state.specs.declared.coming.Coming.{Coming}
use Rattle.server_steps.specs.InEtcd as etcd
use Rattle.server_steps.specs.InEtcd.{EtcdKeep, IsKeepAt}
use Rattle.server_steps.specs.Journaled.{OwnStepsAt, OwnStepsFound, OwnStepsKept}
use Rattle.server_steps.specs.declared.stepping.OwnStepResult.{OwnStepResult}
use Rattle.server_steps.specs.declared.stepping.OwnStepResult.TheVariants as own_stepped

module _ (R : Type 0) (path : List ℕ) (to : Addressee) (at : ℕ) (all : List Coming) (last : Option AnyController) where
  -- of a keeper in the file, which was found so
  pub own_in_file : (found : Result (Option (InFile OnDisk)) KeepFault) (result : OwnStepResult) → IfOk found (λ o. IfSome o (λ keep. keep ≡ keep_in_file path)) → OwnStepsFound is_honest file_bytes found to at all last result → OwnStepsAt R false path to at all last result
  own_in_file (Ok (Some keep)) (own_stepped.Stepped given saved) is own =
      subst (λ k. OwnStepsKept is_honest file_bytes k to at all (own_stepped.Stepped given saved)) is own
  own_in_file (Ok (Some keep)) (own_stepped.LockedOut left kept) is own = absurd own
  own_in_file (Ok (Some keep)) own_stepped.Failed is own = tt
  own_in_file (Ok None) (own_stepped.Stepped given saved) is own = absurd own
  own_in_file (Ok None) (own_stepped.LockedOut left kept) is own = (refl, own.0, own.1)
  own_in_file (Ok None) own_stepped.Failed is own = tt
  own_in_file (Err e) result is own = subst (OwnStepsAt R false path to at all last) (sym own) tt

  -- of one over the key
  pub own_in_etcd : (keep : EtcdKeep R) (result : OwnStepResult) → IsKeepAt path keep → OwnStepsKept etcd.is_honest etcd.value_bytes keep to at all result → OwnStepsAt R true path to at all last result
  own_in_etcd keep (own_stepped.Stepped given saved) is own = (keep, is, own)
  own_in_etcd keep (own_stepped.LockedOut left kept) is own = absurd own
  own_in_etcd keep own_stepped.Failed is own = tt
