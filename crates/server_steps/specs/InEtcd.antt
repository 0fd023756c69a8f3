-- A keeper over the value under a key of etcd. Nothing is known of what is held there, so that it
-- isn't honest.
use Rattle.std.specs.Prelude.{◌≡◌, ℕ, Bool, false, List, [], Some}
use Rattle.cells.specs.Kept.{CellKeepView}
use Rattle.etcd_cell.specs.Cell.{EtcdCellView}
use Rattle.etcd_cell.specs.declared.connector.SocketConnector.{SocketConnector}
use Rattle.etcd_place.specs.Place.{Named, etcd_place_in, key_of}
use Rattle.keepers.specs.Keeper.{CountRose}

abbrev pub EtcdKeep : Type 0 → Type 0
EtcdKeep R = CellKeepView (EtcdCellView (SocketConnector R))

-- it asks the gateway that a path names, for the value under the key that the path names
pub record IsKeepAt {R : Type 0} (path : List ℕ) (keep : EtcdKeep R) : Type 0 where
  pub named : Named
  pub place : etcd_place_in path ≡ Some named
  pub gateway : keep.cell.gateway ≡ named.gateway
  pub key : keep.cell.key ≡ key_of named.name

-- what is known of it: it is no honest keeper, of bytes that nothing tells, and has no place
abbrev pub is_honest : {R : Type 0} → EtcdKeep R → Bool
is_honest keep = false

abbrev pub value_bytes : {R : Type 0} → EtcdKeep R → List ℕ
value_bytes keep = []

abbrev pub place : {R : Type 0} → EtcdKeep R → List ℕ
place keep = []

-- how many of its calls failed, and calls of it that fail
abbrev pub count : {R : Type 0} → EtcdKeep R → ℕ
count keep = keep.count

abbrev pub load_fails : {R : Type 0} → EtcdKeep R → EtcdKeep R → Type 0
load_fails old new = CountRose old.count new.count

abbrev pub save_fails : {R : Type 0} → EtcdKeep R → List ℕ → EtcdKeep R → Type 0
save_fails old bytes new = CountRose old.count new.count
