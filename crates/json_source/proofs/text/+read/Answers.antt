use Rattle.std.proofs.Common.{◌≡◌, ◌-◌, ◌<◌, [], ◌∷◌, length, Some, None, sym, ap, ap₂, ◌∙◌, arith, rules}
use Rattle.json.specs.Token.{Token}
use Rattle.json.specs.Json as json
use Rattle.json.specs.Json.{after_end_array, items, members, parse_map, read_key, value}
use Rattle.json.specs.Reads.{token_of}
use Rattle.json.specs.Value.{items_view, members_view, value_view}
use Rattle.json.specs.declared.value.Value.{String, Number, Bool, Null, the_lemmas}
use Rattle.json.proofs.Grammar.{value_is, value-begin_array, value-begin_object}
use Rattle.serde_json.specs.Data.{array, no_members, object}
use Rattle.serde_json.specs.Read.{converted, of_json}
use Rattle.json_source.specs.Tree.{data_of, items_data, members_data}
use Rattle.json_source.proofs.Converted.{converted-array, converted-object}
use Rattle.json_source.proofs.Entries.{tree-Array}
use Rattle.json_source.proofs.Objects.{tree-Object}
use Rattle.json_source.proofs.Reading.{in_range, items_begin, items_done, items_failed, items_more, members_begin, members_done, members_failed, members_more, members_no_name, out_of_range}
use Rattle.json_source.proofs.text.+read.Goals as goal

pub read_tree-returns-in_err-token-clause-not_json : goal.read_tree-returns-in_err-token-clause-not_json
read_tree-returns-in_err-token-clause-not_json t c refused =
    let empty : c.args.reader.now ≡ [] = grind arith in
    ap (converted of_json) (ap (value c.args.depth) empty ∙ value_is c.args.depth [])

pub read_tree-returns-then-depth-eq0-clause-not_json : goal.read_tree-returns-then-depth-eq0-clause-not_json
unfolding value
read_tree-returns-then-depth-eq0-clause-not_json t c never =
    let first : c.args.reader.now ≡ token_of c.in_ok-token.token ∷ c.next.new.self = grind arith in
    let none : c.args.depth ≡ 0 = omega arith in
    ap (converted of_json) (ap₂ value none (first ∙ ap (λ k. token_of k ∷ c.next.new.self) c.in-BeginArray.is))

pub read_tree-returns-then-depth-eq0-2-clause-not_json : goal.read_tree-returns-then-depth-eq0-2-clause-not_json
unfolding value
read_tree-returns-then-depth-eq0-2-clause-not_json t c never =
    let first : c.args.reader.now ≡ token_of c.in_ok-token.token ∷ c.next.new.self = grind arith in
    let none : c.args.depth ≡ 0 = omega arith in
    ap (converted of_json) (ap₂ value none (first ∙ ap (λ k. token_of k ∷ c.next.new.self) c.in-BeginObject.is))

pub read_tree-returns-in_err-items-in-BeginArray-clause-not_json : goal.read_tree-returns-in_err-items-in-BeginArray-clause-not_json
read_tree-returns-in_err-items-in-BeginArray-clause-not_json t c refused =
    let first : c.args.reader.now ≡ token_of c.in_ok-token.token ∷ c.next.new.self = grind arith in
    let opened = ap (converted of_json) (ap (value c.args.depth) (first ∙ ap (λ k. token_of k ∷ c.next.new.self) c.in-BeginArray.is) ∙ value-begin_array c.args.depth c.next.new.self (omega arith)) ∙ converted-array (items (value (c.args.depth - 1)) (length c.next.new.self) c.next.new.self) in
    opened ∙ ap (parse_map array) (c.read_items.ensures.not_json (grind arith))

pub read_tree-returns-in_err-members-in-BeginObject-clause-not_json : goal.read_tree-returns-in_err-members-in-BeginObject-clause-not_json
read_tree-returns-in_err-members-in-BeginObject-clause-not_json t c refused =
    let first : c.args.reader.now ≡ token_of c.in_ok-token.token ∷ c.next.new.self = grind arith in
    let opened = ap (converted of_json) (ap (value c.args.depth) (first ∙ ap (λ k. token_of k ∷ c.next.new.self) c.in-BeginObject.is) ∙ value-begin_object c.args.depth c.next.new.self (omega arith)) ∙ converted-object (members (value (c.args.depth - 1)) (length c.next.new.self) c.next.new.self) in
    opened ∙ ap (parse_map object) (c.read_members.ensures.not_json (grind arith))

pub read_tree-returns-in-String-clause-ok : goal.read_tree-returns-in-String-clause-ok
read_tree-returns-in-String-clause-ok t c =
    let first : c.args.reader.now ≡ token_of c.in_ok-token.token ∷ c.next.new.self = grind arith in
    let is : c.args.reader.now ≡ Token.string c.in-String.text.now ∷ c.next.new.self = grind (arith, first) in
    let same : value_view (String c.in-String.text) ≡ json.string c.in-String.text.now = search (rules, the_lemmas) in
    ap (converted of_json) (ap (value c.args.depth) is ∙ value_is c.args.depth _) ∙ ap (λ j. Some (data_of j, c.next.new.self)) (sym same)

pub read_tree-returns-in-Bool-clause-ok : goal.read_tree-returns-in-Bool-clause-ok
read_tree-returns-in-Bool-clause-ok t c =
    let first : c.args.reader.now ≡ token_of c.in_ok-token.token ∷ c.next.new.self = grind arith in
    let is : c.args.reader.now ≡ Token.boolean c.in-Bool.truth ∷ c.next.new.self = grind (arith, first) in
    let same : value_view (Bool c.in-Bool.truth) ≡ json.boolean c.in-Bool.truth = search (rules, the_lemmas) in
    ap (converted of_json) (ap (value c.args.depth) is ∙ value_is c.args.depth _) ∙ ap (λ j. Some (data_of j, c.next.new.self)) (sym same)

pub read_tree-returns-in-Null-clause-ok : goal.read_tree-returns-in-Null-clause-ok
read_tree-returns-in-Null-clause-ok t c =
    let first : c.args.reader.now ≡ token_of c.in_ok-token.token ∷ c.next.new.self = grind arith in
    let is : c.args.reader.now ≡ Token.null ∷ c.next.new.self = grind (arith, first) in
    let same : value_view Null ≡ json.null = search (rules, the_lemmas) in
    ap (converted of_json) (ap (value c.args.depth) is ∙ value_is c.args.depth _) ∙ ap (λ j. Some (data_of j, c.next.new.self)) (sym same)

pub read_tree-returns-in-Some-clause-ok : goal.read_tree-returns-in-Some-clause-ok
read_tree-returns-in-Some-clause-ok t c =
    let first : c.args.reader.now ≡ token_of c.in_ok-token.token ∷ c.next.new.self = grind arith in
    let is : c.args.reader.now ≡ Token.number c.in-Number.text.now ∷ c.next.new.self = grind (arith, first) in
    let same : value_view (Number c.in-Number.text) ≡ json.number c.in-Number.text.now = search (rules, the_lemmas) in
    ap (converted of_json) (ap (value c.args.depth) is ∙ value_is c.args.depth _) ∙ in_range c.in-Number.text.now _ c.next.new.self c.in-Some.ensures ∙ ap (λ j. Some (data_of j, c.next.new.self)) (sym same)

pub read_tree-returns-in-None-clause-not_json : goal.read_tree-returns-in-None-clause-not_json
read_tree-returns-in-None-clause-not_json t c refused =
    let first : c.args.reader.now ≡ token_of c.in_ok-token.token ∷ c.next.new.self = grind arith in
    let is : c.args.reader.now ≡ Token.number c.in-Number.text.now ∷ c.next.new.self = grind (arith, first) in
    ap (converted of_json) (ap (value c.args.depth) is ∙ value_is c.args.depth _) ∙ out_of_range c.in-Number.text.now c.next.new.self (sym c.in-None.ensures)

pub read_tree-returns-in-EndObject-clause-not_json : goal.read_tree-returns-in-EndObject-clause-not_json
read_tree-returns-in-EndObject-clause-not_json t c refused =
    let first : c.args.reader.now ≡ token_of c.in_ok-token.token ∷ c.next.new.self = grind arith in
    let none : value c.args.depth c.args.reader.now ≡ None = rw (value_is c.args.depth c.args.reader.now, first) (grind arith) in
    ap (converted of_json) none

pub read_tree-returns-in_ok-items-in-BeginArray-clause-ok : goal.read_tree-returns-in_ok-items-in-BeginArray-clause-ok
read_tree-returns-in_ok-items-in-BeginArray-clause-ok t c =
    let first : c.args.reader.now ≡ token_of c.in_ok-token.token ∷ c.next.new.self = grind arith in
    let opened = ap (converted of_json) (ap (value c.args.depth) (first ∙ ap (λ k. token_of k ∷ c.next.new.self) c.in-BeginArray.is) ∙ value-begin_array c.args.depth c.next.new.self (omega arith)) ∙ converted-array (items (value (c.args.depth - 1)) (length c.next.new.self) c.next.new.self) in
    opened ∙ ap (parse_map array) c.in_ok-items-in-BeginArray.ensures.ok ∙ ap (λ j. Some (data_of j, c.read_items.new.reader)) (sym (tree-Array c.in_ok-items-in-BeginArray.items))

pub read_tree-returns-in_ok-members-in-BeginObject-clause-ok : goal.read_tree-returns-in_ok-members-in-BeginObject-clause-ok
read_tree-returns-in_ok-members-in-BeginObject-clause-ok t c =
    let first : c.args.reader.now ≡ token_of c.in_ok-token.token ∷ c.next.new.self = grind arith in
    let opened = ap (converted of_json) (ap (value c.args.depth) (first ∙ ap (λ k. token_of k ∷ c.next.new.self) c.in-BeginObject.is) ∙ value-begin_object c.args.depth c.next.new.self (omega arith)) ∙ converted-object (members (value (c.args.depth - 1)) (length c.next.new.self) c.next.new.self) in
    opened ∙ ap (parse_map object) c.in_ok-members-in-BeginObject.ensures.ok ∙ ap (λ j. Some (data_of j, c.read_members.new.reader)) (sym (tree-Object c.in_ok-members-in-BeginObject.members))

pub read_items-items-init : goal.read_items-items-init
read_items-items-init t c = search (rules, items_begin c.args.depth c.args.reader.now)

pub read_items-returns-in_err-item-clause-not_json : goal.read_items-returns-in_err-item-clause-not_json
read_items-returns-in_err-item-clause-not_json t c refused =
    let l = c.items in
    let going : (after_end_array l.reader ≡ None) × (c.take_end_array.new.self ≡ l.reader) = grind arith in
    items_failed c.args.depth c.args.reader.now _ l.reader l.invariant going.0 (rw (← going.1) (c.read_tree.ensures.not_json (grind arith)))

pub read_items-items-preserved : goal.read_items-items-preserved
read_items-items-preserved t c =
    let l = c.items in
    let going : (after_end_array l.reader ≡ None) × (c.take_end_array.new.self ≡ l.reader) = grind arith in
    let done = c.in_ok-item.ensures in
    let less : length c.read_tree.new.reader < length l.reader = rw (← going.1) done.shorter in
    items_more c.args.depth c.args.reader.now l.found.items _ l.reader c.read_tree.new.reader c.in_ok-item.item l.invariant going.0 (rw (← going.1) done.ok) less c.in_ok-push.ensures.items

pub read_items-returns-clause-ok : goal.read_items-returns-clause-ok
read_items-returns-clause-ok t c =
    let l = c.items in
    items_done c.args.depth c.args.reader.now l.found.items l.reader c.take_end_array.new.self l.invariant (grind arith)
    ∙ ap (λ ts. Some (items_data (items_view ts), c.take_end_array.new.self)) (sym c.shrink_to_fit.ensures.items)

pub read_members-members-init : goal.read_members-members-init
read_members-members-init t c = search (rules, members_begin c.args.depth c.args.reader.now)

pub read_members-returns-in_err-name-clause-not_json : goal.read_members-returns-in_err-name-clause-not_json
read_members-returns-in_err-name-clause-not_json t c refused =
    let l = c.members in
    members_no_name c.args.depth c.args.reader.now _ l.reader l.invariant c.in_err-name.ensures.value

pub read_members-returns-in_err-member-clause-not_json : goal.read_members-returns-in_err-member-clause-not_json
read_members-returns-in_err-member-clause-not_json t c refused =
    let l = c.members in
    let named : read_key l.reader ≡ Some (Some c.in-Some.name.now, c.next_name.new.reader) = grind arith in
    members_failed c.args.depth c.args.reader.now _ l.reader c.next_name.new.reader c.in-Some.name.now l.invariant named (c.read_tree.ensures.not_json (grind arith))

pub read_members-members-preserved : goal.read_members-members-preserved
read_members-members-preserved t c =
    let l = c.members in
    let named : read_key l.reader ≡ Some (Some c.in-Some.name.now, c.next_name.new.reader) = grind arith in
    let done = c.in_ok-member.ensures in
    members_more c.args.depth c.args.reader.now l.found.items _ l.reader c.next_name.new.reader c.read_tree.new.reader (c.in-Some.name, c.in_ok-member.member) l.invariant named done.ok done.shorter c.in_ok-push.ensures.items

pub read_members-returns-clause-ok : goal.read_members-returns-clause-ok
read_members-returns-clause-ok t c =
    let l = c.members in
    let over : read_key l.reader ≡ Some (None, c.next_name.new.reader) = grind arith in
    members_done c.args.depth c.args.reader.now l.found.items l.reader c.next_name.new.reader l.invariant over
    ∙ ap (λ ms. Some (members_data (members_view ms) no_members, c.next_name.new.reader)) (sym c.shrink_to_fit.ensures.items)
