use Rattle.std.proofs.Common.{◌≡◌, ◌∙◌, ◌++◌, ◌∷◌, ◌≤◌, [], take, drop, insert, is_ok, if◌then◌else◌, length, map, sym, ap, subst, arith}
use Rattle.std.proofs.lemmas.List.{length-map, take_at}
use Rattle.ticket_rows.proofs.Labels.{labels_insert, places_insert}
use Rattle.ticket_rows.specs.Index.{shifted_place}
use Rattle.ticket_rows.specs.Labels.{AreLabels, place_in, places_of}
use Rattle.ticket_rows.proofs.places.Places.insert.Goals as goal

pub invariant_of-self : goal.invariant_of-self
invariant_of-self c =
    let old = c.self.inside in
    let k = c.args.place in
    let label = c.new_label-label.result in
    let labels = c.new_label-label.new.labels in
    let order = c.new_label-label.new.order in
    let kept = take old.labels.len (labels ++ drop (length labels) old.labels.items) in
    let set = take old.order.len (order ++ drop (length order) old.order.items) in
    let long : length order ≡ old.order.len = c.new_label-label.ensures.len ∙ c.as_mut_slice-2.ensures.len in
    let many : length labels ≡ old.labels.len = omega (arith, c.new_label-label.ensures.labels.count, long, c.self.invariant.count, old.labels.ok.0, old.order.ok.0) in
    let low : k ≤ length order = omega (arith, c.requires.within, ap (λ t. length t.items) c.self.view_is, length-map old.labels.items (place_in old.order.items), c.self.invariant.count, old.order.ok.0, long) in
    let pushed : c.push.new.self.items ≡ labels ++ label ∷ [] = c.push.ensures.items ∙ ap (λ o. if is_ok o then kept ++ label ∷ [] else kept) c.unwrap.ensures ∙ ap (λ ls. ls ++ label ∷ []) (take_at labels _ old.labels.len many) in
    let put : c.insert.new.self.items ≡ insert order k label = c.insert.ensures.items ∙ ap (λ o. if is_ok o then insert set k label else set) c.unwrap-2.ensures ∙ ap (λ ls. insert ls k label) (take_at order _ old.order.len long) in
    subst (λ ls. AreLabels ls c.insert.new.self.items) (sym pushed)
    (subst (AreLabels (labels ++ label ∷ [])) (sym put) (labels_insert labels order k label c.new_label-label.ensures.labels c.new_label-label.ensures.fits low))

pub returns : goal.returns
returns c =
    let old = c.self.inside in
    let k = c.args.place in
    let label = c.new_label-label.result in
    let labels = c.new_label-label.new.labels in
    let order = c.new_label-label.new.order in
    let kept = take old.labels.len (labels ++ drop (length labels) old.labels.items) in
    let set = take old.order.len (order ++ drop (length order) old.order.items) in
    let long : length order ≡ old.order.len = c.new_label-label.ensures.len ∙ c.as_mut_slice-2.ensures.len in
    let many : length labels ≡ old.labels.len = omega (arith, c.new_label-label.ensures.labels.count, long, c.self.invariant.count, old.labels.ok.0, old.order.ok.0) in
    let low : k ≤ length order = omega (arith, c.requires.within, ap (λ t. length t.items) c.self.view_is, length-map old.labels.items (place_in old.order.items), c.self.invariant.count, old.order.ok.0, long) in
    let pushed : c.push.new.self.items ≡ labels ++ label ∷ [] = c.push.ensures.items ∙ ap (λ o. if is_ok o then kept ++ label ∷ [] else kept) c.unwrap.ensures ∙ ap (λ ls. ls ++ label ∷ []) (take_at labels _ old.labels.len many) in
    let put : c.insert.new.self.items ≡ insert order k label = c.insert.ensures.items ∙ ap (λ o. if is_ok o then insert set k label else set) c.unwrap-2.ensures ∙ ap (λ ls. insert ls k label) (take_at order _ old.order.len long) in
    let before : places_of labels order ≡ c.args.self.now.items = c.new_label-label.ensures.places ∙ ap (λ ls. places_of ls c.as_mut_slice-2.result.now) c.as_mut_slice.ensures.value ∙ ap (places_of old.labels.items) c.as_mut_slice-2.ensures.value ∙ ap (λ t. t.items) c.self.view_is in
    ap (λ ls. places_of ls c.insert.new.self.items) pushed ∙ ap (places_of (labels ++ label ∷ [])) put
    ∙ places_insert labels order k label c.new_label-label.ensures.labels c.new_label-label.ensures.fits low ∙ ap (λ ps. map (shifted_place k) ps ++ k ∷ []) before
