-- A line that changes, or stays.
use Rattle.std.proofs.Common.{◌≡◌, ◌∙◌, ℕ, List, None, Some, String, ap, bytes_eq, cond, inl, inr, string_bytes, string_eq, subst, sym}
use Rattle.std.proofs.lemmas.Map.Text.{hash_map_updates_text}
use Rattle.std.specs.HashMap.{UpdatesBy, get_by_text}
use Rattle.std.specs.Option.{option_map}
use Rattle.std.specs.declared.alloc.Global.{Global}
use Rattle.mio.specs.declared.net.stream.TcpStream.{TcpStream}
use Rattle.mio.specs.declared.net.uds.stream.UnixStream.{UnixStream}
use Rattle.jdf_server.specs.Lines.{ChangesLine, IsEmpty, Lines, OthersStay, Queue, Stays, empty_queue, queue_in, queue_of}
use Rattle.server_post.specs.declared.line.Line.{Line}
use Rattle.server_post.specs.declared.own.Own.{Own}
use Rattle.rounds.specs.declared.errand.Errand.{Errand}
use Rattle.shop_folder.specs.declared.owner.Owner.{Owner}

-- what is in a line, part by part
abbrev pub queue_with : Owner → List (Errand TcpStream) → List (Errand UnixStream) → List Own → Queue
queue_with to errands orders own = record { to = to; errands = errands; orders = orders; own = own }

-- queues of the same are the same
pub same_queue : {to to' : Owner} {es es' : List (Errand TcpStream)} {os os' : List (Errand UnixStream)} {own own' : List Own} → to ≡ to' → es ≡ es' → os ≡ os' → own ≡ own' → queue_with to es os own ≡ queue_with to' es' os' own'
same_queue {to = to} {to' = to'} {es = es} {es' = es'} {os = os} {os' = os'} {own = own} {own' = own'} a b c d =
    ap (λ x. queue_with x es os own) a ∙ ap (λ x. queue_with to' x os own) b ∙ ap (λ x. queue_with to' es' x own) c ∙ ap (λ x. queue_with to' es' os' x) d

-- where a line is written, those of other paths stay
pub others_stay : {S : Type 0} (path : List ℕ) (old new : Lines S) (line : Line) → UpdatesBy string_eq (λ k. bytes_eq path (string_bytes k)) old new (Some line) → OthersStay path old new
others_stay path old new line updates other apart =
    hash_map_updates_text path old new (Some line) updates other ∙ ap (λ b. cond b (Some line) (get_by_text old other)) apart

module _ {S : Type 0} (to : Owner) (change : Queue → Queue) (old new : Lines S) where
  -- the line that was there is changed so
  pub changed_there : (path bytes : List ℕ) (was line : Line) → bytes ≡ path → Some was ≡ get_by_text old bytes → UpdatesBy string_eq (λ k. bytes_eq bytes (string_bytes k)) old new (Some line) → queue_of line ≡ change (queue_of was) → ChangesLine path to change old new
  changed_there path bytes was line is =
      subst (λ bs. Some was ≡ get_by_text old bs → UpdatesBy string_eq (λ k. bytes_eq bs (string_bytes k)) old new (Some line) → queue_of line ≡ change (queue_of was) → ChangesLine path to change old new) (sym is)
      (λ at updates so. record {
        there = ap (queue_in to) updates.1 ∙ so ∙ ap (λ found. change (queue_in to found)) at;
        others = others_stay path old new line updates;
      })

  -- a line is new, and what an empty one is changed to
  pub changed_new : (key : String Global) (bytes : List ℕ) (before : Lines S) (line : Line) → before ≡ old → bytes ≡ string_bytes key → None ≡ get_by_text old bytes → UpdatesBy string_eq (string_eq key) before new (Some line) → queue_of line ≡ change (empty_queue to) → ChangesLine (string_bytes key) to change old new
  changed_new key bytes before line same is =
      subst (λ bs. None ≡ get_by_text old bs → UpdatesBy string_eq (string_eq key) before new (Some line) → queue_of line ≡ change (empty_queue to) → ChangesLine (string_bytes key) to change old new) (sym is)
      (λ at written so.
      let updates = subst (λ lines. UpdatesBy string_eq (string_eq key) lines new (Some line)) same written in
      record {
        there = ap (queue_in to) updates.1 ∙ so ∙ ap (λ found. change (queue_in to found)) at;
        others = others_stay (string_bytes key) old new line updates;
      })

-- a line that is written stays
pub stays_with : {S : Type 0} (path : String Global) (line : Line) (before old new : Lines S) → before ≡ old → UpdatesBy string_eq (string_eq path) before new (Some line) → Stays (string_bytes path) (queue_of line) old new
stays_with path line before old new same written =
    let updates = subst (λ lines. UpdatesBy string_eq (string_eq path) lines new (Some line)) same written in
    record {
      there = inl (ap (option_map queue_of) updates.1);
      others = others_stay (string_bytes path) old new line updates;
    }

-- and none is left where nobody is
pub stays_without : {S : Type 0} {path : List ℕ} {left : Queue} {old new : Lines S} → IsEmpty left → new ≡ old → Stays path left old new
stays_without none same =
    record {
      there = inr (none, same);
      others = λ other apart. ap (λ lines. get_by_text lines other) same;
    }
