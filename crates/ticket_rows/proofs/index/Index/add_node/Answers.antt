use Rattle.std.proofs.Common.{◌≡◌, ◌∙◌, ◌+◌, ◌<◌, ◌++◌, ◌∷◌, [], Some, cond, if◌then◌else◌, insert, is_ok, length, map, sym, ap, subst, arith, slice_get}
use Rattle.std.proofs.lemmas.List.{length-map}
use Rattle.std.proofs.lemmas.Map.Text.{is_eq-slice_cmp}
use Rattle.std.proofs.lemmas.Option.{slice_get-get_or}
use Rattle.std.specs.Option.{option_map}
use Rattle.std.specs.Str.{bytes_eq}
use Rattle.ticket_rows.proofs.Boxed.{count, there_in}
use Rattle.ticket_rows.proofs.InLists.{get_within}
use Rattle.ticket_rows.proofs.IndexFollows.{columns_with_node, end_told, node_told, runs_end, runs_long}
use Rattle.ticket_rows.proofs.Labels.{slice_get-map}
use Rattle.ticket_rows.proofs.Parents.{runs_nest}
use Rattle.ticket_rows.specs.Boxed.{contents}
use Rattle.ticket_rows.specs.Index.{Finds, longer_run, runs_of, shape_of, shapes_of, shifted_place, spot_under}
use Rattle.ticket_rows.specs.Parents.{AreParents, Nest}
use Rattle.ticket_items.specs.Ids.{mem}
use Rattle.ticket_rows.specs.Ticket.{depths, ids}
use Rattle.ticket_rows.specs.declared.spot.Spot.TheVariants.{OfNode}
use Rattle.ticket_rows.proofs.index.Index.add_node.Goals as goal

pub index-requires : goal.index-requires
index-requires c =
    let within : c.args.place < length (contents c.args.rows.now) = c.requires.within in
    omega (arith, runs_long (contents c.args.rows.now) c.args.self.now c.requires.index, c.args.self.now.runs.ok.0)

pub overflow_add-end-2 : goal.overflow_add-end-2
overflow_add-end-2 c =
    let rows = contents c.args.rows.now in
    let index = c.args.self.now in
    let k = c.args.place in
    let n = c.index.result.now in
    let within : k < length rows = c.requires.within in
    let long : length index.runs.items ≡ length rows = runs_long rows index c.requires.index in
    let run : slice_get index.runs.items k ≡ Some n = slice_get-get_or index.runs.items k n (omega arith) ∙ ap Some (sym c.index.ensures) in
    omega (arith, runs_end rows k n index c.requires.index run, index.runs.ok.0, index.runs.ok.1, index.runs.small)

pub lengthen-requires-clause-runs : goal.lengthen-requires-clause-runs
lengthen-requires-clause-runs c =
    subst Nest (sym (c.in_ok-reserve-3.ensures.items ∙ c.requires.index.runs)) (runs_nest (depths (contents c.args.rows.now)))

pub lengthen-requires-clause-parents : goal.lengthen-requires-clause-parents
lengthen-requires-clause-parents c =
    let i = c.requires.index in
    subst (λ ns. AreParents ns c.reserve.new.self.items c.as_slice.result.now) (sym (c.in_ok-reserve-3.ensures.items ∙ i.runs))
    (subst (λ ps. AreParents (runs_of (depths (contents c.args.rows.now))) ps c.as_slice.result.now) (sym c.reserve.ensures.items)
    (subst (AreParents (runs_of (depths (contents c.args.rows.now))) c.args.self.now.places.items) (sym (c.as_slice.ensures.value ∙ c.in_ok-reserve-2.ensures.items)) i.parents))

pub lengthen-requires-clause-within : goal.lengthen-requires-clause-within
lengthen-requires-clause-within c n k at =
    let rows = contents c.args.rows.now in
    let i = c.requires.index in
    omega (arith, i.finds.within n k (ap (λ ps. slice_get ps n) (sym c.reserve.ensures.items) ∙ at), length-map rows shape_of, runs_long rows c.args.self.now i, ap length c.in_ok-reserve-3.ensures.items)

pub lengthen-requires-clause-came : goal.lengthen-requires-clause-came
lengthen-requires-clause-came c =
    let rows = contents c.args.rows.now in
    let index = c.args.self.now in
    let k = c.args.place in
    let r = c.as_ref-row.result.now in
    let at : slice_get rows k ≡ Some r = there_in c.args.rows.now k c.index-rows-place.result r c.requires.within c.index-rows-place.is c.as_ref-row.ensures in
    omega (arith, get_within index.places.items c.count_before-parent.result k (c.count_before-parent.ensures k (node_told rows k r index c.requires.index c.requires.distinct at)), ap length c.reserve.ensures.items)

pub insert-requires-2-clause-within : goal.insert-requires-2-clause-within
insert-requires-2-clause-within c =
    let rows = contents c.args.rows.now in
    let index = c.args.self.now in
    let k = c.args.place in
    let n = c.index.result.now in
    let within : k < length rows = c.requires.within in
    let long : length index.runs.items ≡ length rows = runs_long rows index c.requires.index in
    let run : slice_get index.runs.items k ≡ Some n = slice_get-get_or index.runs.items k n (omega arith) ∙ ap Some (sym c.index.ensures) in
    omega (arith, runs_end rows k n index c.requires.index run, ap length c.reserve.ensures.items, c.requires.index.finds.count, length-map rows shape_of)

pub unwrap-requires : goal.unwrap-requires
unwrap-requires c =
    c.push.ensures.succeeds (omega (arith, c.reserve-2.new.self.ok.0, c.in_ok-reserve-2.ensures.ok))

pub insert-requires-3 : goal.insert-requires-3
insert-requires-3 c =
    let rows = contents c.args.rows.now in
    let index = c.args.self.now in
    let k = c.args.place in
    let n = c.index.result.now in
    let within : k < length rows = c.requires.within in
    let long : length index.runs.items ≡ length rows = runs_long rows index c.requires.index in
    let run : slice_get index.runs.items k ≡ Some n = slice_get-get_or index.runs.items k n (omega arith) ∙ ap Some (sym c.index.ensures) in
    omega (arith, runs_end rows k n index c.requires.index run, c.lengthen.new.runs.ok.0, c.lengthen.ensures.len, ap length c.in_ok-reserve-3.ensures.items)

pub unwrap-requires-2 : goal.unwrap-requires-2
unwrap-requires-2 c =
    c.insert-3.ensures.succeeds (omega (arith, c.lengthen.new.runs.ok.0, c.lengthen.ensures.len, c.lengthen.ensures.room, c.reserve-3.new.self.ok.0, c.in_ok-reserve-3.ensures.ok))

pub returns-clause-end : goal.returns-clause-end
returns-clause-end c r at =
    let rows = contents c.args.rows.now in
    let index = c.args.self.now in
    let k = c.args.place in
    let n = c.index.result.now in
    let within : k < length rows = c.requires.within in
    let long : length index.runs.items ≡ length rows = runs_long rows index c.requires.index in
    let run : slice_get index.runs.items k ≡ Some n = slice_get-get_or index.runs.items k n (omega arith) ∙ ap Some (sym c.index.ensures) in
    end_told rows k n r index c.requires.index run at

pub returns-clause-ok : goal.returns-clause-ok
returns-clause-ok c r new at named bare one =
    let rows = contents c.args.rows.now in
    let index = c.args.self.now in
    let k = c.args.place in
    let n = c.index.result.now in
    let end = k + 1 + n in
    let node = c.count_before-parent.result in
    let moved = map (shifted_place end) index.places.items in
    let longer = c.lengthen.new.runs.items in
    let old = c.reserve-2.new.self.items in
    let within : k < length rows = c.requires.within in
    let long : length index.runs.items ≡ length rows = runs_long rows index c.requires.index in
    let run : slice_get index.runs.items k ≡ Some n = slice_get-get_or index.runs.items k n (omega arith) ∙ ap Some (sym c.index.ensures) in
    let seen = c.reserve.ensures.items in
    let came : slice_get index.places.items node ≡ Some k = c.count_before-parent.ensures k (node_told rows k c.as_ref-row.result.now index c.requires.index c.requires.distinct (there_in c.args.rows.now k c.index-rows-place.result c.as_ref-row.result.now c.requires.within c.index-rows-place.is c.as_ref-row.ensures)) in
    let last : c.len-node.result ≡ length index.places.items = c.len-node.ensures ∙ ap length seen in
    let places : c.insert-2.new.self.items ≡ moved ++ end ∷ [] = c.insert-2.ensures ∙ ap (λ ps. map (shifted_place end) ps ++ end ∷ []) seen in
    let parents : c.push.new.self.items ≡ index.parents.items ++ node ∷ [] = c.push.ensures.items ∙ ap (λ o. if is_ok o then old ++ node ∷ [] else old) c.unwrap.ensures ∙ ap (λ ps. ps ++ node ∷ []) c.in_ok-reserve-2.ensures.items in
    let runs : c.insert-3.new.self.items ≡ insert longer end 0 = c.insert-3.ensures.items ∙ ap (λ o. if is_ok o then insert longer end 0 else longer) c.unwrap-2.ensures in
    let columns = columns_with_node rows k n node r new index c.insert.new.self moved longer c.requires.index run at bare one (ap (λ i. mem i (ids rows)) named ∙ c.requires.new)
    (λ x. c.in_ok-insert.ensures.updates.0 x ∙ ap (λ b. cond b (Some (OfNode c.len-node.result)) (spot_under index.spots x)) (is_eq-slice_cmp c.args.id x)
    ∙ ap (λ i. cond (bytes_eq i x) (Some (OfNode c.len-node.result)) (spot_under index.spots x)) (sym named)
    ∙ ap (λ m. cond (bytes_eq new.id x) (Some (OfNode m)) (spot_under index.spots x)) last)
    (slice_get-map (shifted_place end) index.places.items)
    (length-map index.places.items (shifted_place end))
    (λ j. c.lengthen.ensures.one k j (ap (λ ps. slice_get ps node) seen ∙ came) ∙ ap (λ ns. option_map (longer_run k j) (slice_get ns j)) c.in_ok-reserve-3.ensures.items)
    (c.lengthen.ensures.len ∙ ap length c.in_ok-reserve-3.ensures.items) came in
    let all = insert rows end new in
    record {
      finds = subst (Finds (shapes_of all) c.insert.new.self) (sym places) columns.0;
      parents = subst (λ ps. AreParents (runs_of (depths all)) ps c.push.new.self.items) (sym places) (subst (AreParents (runs_of (depths all)) (moved ++ end ∷ [])) (sym parents) columns.1);
      runs = runs ∙ columns.2;
    }
