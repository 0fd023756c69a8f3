use Rattle.std.proofs.Common.{◌∙◌, ℕ, List, subst, sym}
use Rattle.std.specs.Option.{option_copied}
use Rattle.peers_file.proofs.Found.{copied_some, front_of_name, name_found}
use Rattle.peers_file.specs.Table.{IsUrlOf}
use Rattle.peers_file.proofs.table.PeerTable.url_of.Goals as goal

pub returns-then-is_some : goal.returns-then-is_some
returns-then-is_some c =
    subst (λ (name : List ℕ). IsUrlOf name c.args.self.now (option_copied c.under-found.result)) c.as_bytes-name.ensures.value
    (name_found c.as_bytes-name.result.now c.args.self.now (option_copied c.under-found.result) c.under-found.ensures
    (copied_some c.under-found.result ∙ sym c.is_some.ensures ∙ c.if-is_some.true))

pub returns : goal.returns
returns c =
    subst (λ (name : List ℕ). IsUrlOf name c.args.self.now (option_copied c.under_front.result)) c.as_bytes-name.ensures.value
    (front_of_name c.as_bytes-name.result.now c.args.self.now (option_copied c.under-found.result) (option_copied c.under_front.result)
    c.under-found.ensures (copied_some c.under-found.result ∙ sym c.is_some.ensures ∙ c.if-is_some.false) c.under_front.ensures)
