use Rattle.std.proofs.Common.{◌∙◌, refl, sym}
use Rattle.jdf_net.proofs.AnyCalls.{sends_none, sends_of_file}
use Rattle.jdf_net.proofs.words.run_network.Goals as goal

pub returns-then-is_etcd : goal.returns-then-is_etcd
returns-then-is_etcd g c =
    rw c.in-SendOrder.is (sends_none _ _ _ _ _ _ _ _ (sym c.is_etcd.ensures ∙ c.if-is_etcd.true) (refl, refl, c.refuse_sending.ensures))

pub returns-else-is_etcd : goal.returns-else-is_etcd
returns-else-is_etcd g c =
    rw c.in-SendOrder.is (sends_of_file _ _ _ _ _ _ _ _ (sym c.is_etcd.ensures ∙ c.if-is_etcd.false) c.run_send_order.ensures.ends)
