use Rattle.std.proofs.Common.{◌≡◌, ◌∙◌, ◌+◌, ◌∷◌, ◌++◌, ◌||◌, [], List, ℕ, true, false, Err, sym, ap, drop, map, take}
use Rattle.std.proofs.lemmas.List.{take-append-drop, drop_more, map-append, take_more}
use Rattle.std.specs.Str.{bytes_eq}
use Rattle.ticket_items.specs.Ids.{mem}
use Rattle.ticket_items.proofs.Apart.{bytes_eq-same, mem-append, or_true}
use Rattle.worker_core.specs.Worker.{state}
use Rattle.world.specs.State.{new_worker}
use Rattle.world.proofs.workers.new_workers.Goals as goal

pub returns-in_err-worker-clause-memory : goal.returns-in_err-worker-clause-memory
returns-in_err-worker-clause-memory c =
    let i = c.loop-name.name-index in
    let names = c.args.names.now in
    let master = c.args.master.now in
    let x : List ℕ = c.name-item.result in
    let whole : names ≡ take i names ++ x ∷ drop (i + 1) names =
    sym (take-append-drop i names) ∙ ap (λ ys. take i names ++ ys) (drop_more names i x c.loop-name-test.true ∙ ap (λ y. y ∷ drop (i + 1) names) (sym c.name-item.is)) in
    let same : x ≡ master = sym c.in_ok-copy.ensures ∙ c.in_err-worker.ensures.refused.0 (ap Err c.in_err-worker.ensures.only) ∙ c.in_ok-copy-2.ensures in
    let here : bytes_eq x master ≡ true = ap (λ y. bytes_eq y master) same ∙ bytes_eq-same master in
    let there : mem master names ≡ true =
    ap (mem master) whole ∙ mem-append master (take i names) (x ∷ drop (i + 1) names) ∙ ap (λ b. mem master (take i names) || (b || mem master (drop (i + 1) names))) here ∙ or_true (mem master (take i names)) in
    let no : true ≡ false = sym there ∙ c.requires.apart in
    cc

pub loop-name-preserved : goal.loop-name-preserved
loop-name-preserved c =
    let i = c.loop-name.name-index in
    let names = c.args.names.now in
    let master = c.args.master.now in
    let x : List ℕ = c.name-item.result in
    let made : c.in_ok-new.field-0 ≡ new_worker master x =
    c.in_ok-new.ensures ∙ c.in_ok-worker.ensures.ok ∙ ap (λ n. state n c.in_ok-copy-2.field-0 []) c.in_ok-copy.ensures ∙ ap (λ m. state x m []) c.in_ok-copy-2.ensures in
    let more : map (new_worker master) (take (i + 1) names) ≡ map (new_worker master) (take i names) ++ new_worker master x ∷ [] =
    ap (map (new_worker master)) (take_more names i x c.loop-name-test.true ∙ ap (λ y. take i names ++ y ∷ []) (sym c.name-item.is)) ∙ map-append (new_worker master) (take i names) (x ∷ []) in
    c.in_ok-push.ensures.items ∙ ap (λ ws. ws ++ c.in_ok-new.field-0 ∷ []) c.loop-name.invariant ∙ ap (λ w. map (new_worker master) (take i names) ++ w ∷ []) made ∙ sym more
