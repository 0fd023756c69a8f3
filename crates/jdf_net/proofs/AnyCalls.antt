-- Calls by where FILE is.
use Rattle.std.proofs.Common.{◌≡◌, ℕ, Bool, Bor, List, false, is_some, subst, sym, true}
use Rattle.cell_commands.specs.Calls.{EndsInCell}
use Rattle.etcd_place.specs.Place.{etcd_place_in}
use Rattle.file_commands.specs.Ends.{EndsInFile}
use Rattle.jdf_send.specs.OrderCommand.{EndsSendOrder}
use Rattle.jdf_words.specs.declared.kept_call.KeptCall.{KeptCall}
use Rattle.streams.specs.Streams.{Traffic}
use Rattle.jdf_net.specs.Words.{EndsInEtcd, EndsKept, EndsNowhere, EndsSending}

-- a call on a controller in a file
pub in_file : (file : List ℕ) (call : KeptCall) (input output told : Traffic) (status : ℕ) (is : Bool) → is ≡ false → EndsInFile file call input output told status → EndsKept is file call input output told status
in_file file call i o t s is not ends = subst (λ b. EndsKept b file call i o t s) (sym not) ends

-- on one in etcd
pub in_etcd : (file : List ℕ) (call : KeptCall) (input output told : Traffic) (status : ℕ) (is : Bool) → is ≡ true → is_some (etcd_place_in file) ≡ true → EndsInCell call input output told status → EndsKept is file call input output told status
in_etcd file call i o t s is etcd placed ends = subst (λ b. EndsKept b file call i o t s) (sym etcd) (subst (λ p. EndsInEtcd p call i o t s) (sym placed) ends)

-- and where none is named
pub nowhere : (file : List ℕ) (call : KeptCall) (input output told : Traffic) (status : ℕ) (is : Bool) → is ≡ true → is_some (etcd_place_in file) ≡ false → EndsNowhere input output status → EndsKept is file call input output told status
nowhere file call i o t s is etcd unplaced ends = subst (λ b. EndsKept b file call i o t s) (sym etcd) (subst (λ p. EndsInEtcd p call i o t s) (sym unplaced) ends)

-- an order whose message is sent, of a controller in a file or in etcd
pub sends_of_file : (file : Bor (List ℕ)) (at : ℕ) (url : List ℕ) (input output told : Traffic) (status : ℕ) (is : Bool) → is ≡ false → EndsSendOrder file at url input output told status → EndsSending is file at url input output told status
sends_of_file file at url i o t s is not ends = subst (λ b. EndsSending b file at url i o t s) (sym not) ends

pub sends_none : (file : Bor (List ℕ)) (at : ℕ) (url : List ℕ) (input output told : Traffic) (status : ℕ) (is : Bool) → is ≡ true → EndsNowhere input output status → EndsSending is file at url input output told status
sends_none file at url i o t s is etcd ends = subst (λ b. EndsSending b file at url i o t s) (sym etcd) ends
