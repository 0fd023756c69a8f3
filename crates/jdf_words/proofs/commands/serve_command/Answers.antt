use Rattle.std.proofs.lemmas.Result.{IfOk-weaker}
use Rattle.jdf_words.proofs.Adding.{argued}
use Rattle.jdf_words.proofs.commands.serve_command.Goals as goal

pub returns : goal.returns
returns c =
    let listen = argued _ _ _ _ _ c.in_ok-arg.ensures c.in_ok-file_command.ensures c.listen_argument.ensures.rule c.listen_argument.ensures.local in
    let limit = argued _ _ _ _ _ c.in_ok-arg-2.ensures listen c.limit_argument.ensures.rule c.limit_argument.ensures.local in
    let clients = argued _ _ _ _ _ c.in_ok-arg-3.ensures limit c.clients_argument.ensures.rule c.clients_argument.ensures.local in
    let body = argued _ _ _ _ _ c.in_ok-arg-4.ensures clients c.body_argument.ensures.rule c.body_argument.ensures.local in
    let memory = argued _ _ _ _ _ c.in_ok-arg-5.ensures body c.memory_argument.ensures.rule c.memory_argument.ensures.local in
    let requests = argued _ _ _ _ _ c.in_ok-arg-6.ensures memory c.requests_argument.ensures.rule c.requests_argument.ensures.local in
    let peers = argued _ _ _ _ _ c.in_ok-arg-7.ensures requests c.peers_argument.ensures.rule c.peers_argument.ensures.local in
    let field = argued _ _ _ _ _ c.in_ok-arg-8.ensures peers c.sender_field_argument.ensures.rule c.sender_field_argument.ensures.local in
    let journal = argued _ _ _ _ _ c.in_ok-arg-9.ensures field c.journal_argument.ensures.rule c.journal_argument.ensures.local in
    let page = argued _ _ _ _ _ c.in_ok-arg-10.ensures journal c.page_argument.ensures.rule c.page_argument.ensures.local in
    IfOk-weaker c.arg-11.result _ _ (λ made last. argued _ _ _ _ _ last page c.orders_argument.ensures.rule c.orders_argument.ensures.local) c.arg-11.ensures
