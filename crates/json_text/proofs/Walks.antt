-- Nodes that are printed one after another, over the rows from the first to the last.
use Rattle.std.proofs.Common.{◌≡◌, ◌∙◌, ℕ, ◌+◌, ◌<◌, ◌≤◌, ◌&&◌, Bool, true, false, cond, List, [], ◌∷◌, ◌++◌, Some, drop, option_and_then, option_map, refl, sym, ap, append_assoc, arith, nat_lt}
use Rattle.std.proofs.lemmas.Bool.{and_from, and_parts, lt-ltb, ltb-true, eqb-true, leb-true}
use Rattle.std.specs.List.{list_all, slice_get}
use Rattle.std.specs.Prelude.{codes}
use Rattle.json.specs.Token.{begin_array, end_array, key}
use Rattle.json.specs.Tree.{items_tokens}
use Rattle.json.specs.Written.{Written}
use Rattle.serde_json.specs.Data.{Items, no_items, item, array}
use Rattle.serde_json.specs.Read.{of_items}
use Rattle.serde_json.specs.Written.{outline, items_outline}
use Rattle.ticket_items.specs.declared.marks.Marks.{Marks}
use Rattle.ticket_items.specs.declared.node_row.NodeRow.{NodeRow}
use Rattle.ticket_rows.specs.Outline.{goes_on, is_outline}
use Rattle.ticket_rows.specs.Ticket.{depths}
use Rattle.json_items.specs.TicketForm.{row_has_names, row_has_texts}
use Rattle.json_text.specs.TicketText.{is_front_deeper, shown_trees, shown_children, shown_node, IsDeeperAt, IsBehindDeeper}
use Rattle.json_text.specs.Written.{Tree, children, has_deeper_front, trees_behind}
use Rattle.json_text.specs.Nodes.{IsWalked}
use Rattle.json_text.specs.Printed.{data_tokens, IsAppended, IsPrinted, IsReadAgain}
use Rattle.json_text.proofs.MemberLaws.{appended_more}

-- ---- trees

-- no tree in front stands deeper
none_deeper : (depth : ℕ) (ts : List Tree) → has_deeper_front depth ts ≡ false → (children depth ts ≡ no_items) × (trees_behind depth ts ≡ ts)
none_deeper depth [] h = (refl, refl)
none_deeper depth (t ∷ ts) h = (ap (λ b. cond b (item t.value (children depth ts)) no_items) h, ap (λ b. cond b (trees_behind depth ts) (t ∷ ts)) h)

front_tree : (marks : Marks) (depth : ℕ) (rows : List NodeRow) → has_deeper_front depth (shown_trees marks rows) ≡ is_front_deeper depth rows
front_tree marks depth [] = refl
front_tree marks depth (r ∷ rows) = refl

-- a row that stands deeper, and the rows behind it that are none of its children
shown_more : (marks : Marks) (depth : ℕ) (rows : List NodeRow) (at end : ℕ) (row : NodeRow) → IsDeeperAt depth rows at row → IsBehindDeeper marks row.depth rows (at + 1) end
    → (shown_children marks depth (drop at rows) ≡ item (shown_node marks row (drop (at + 1) rows)) (shown_children marks depth (drop end rows))) × (trees_behind depth (shown_trees marks (drop at rows)) ≡ trees_behind depth (shown_trees marks (drop end rows)))
shown_more marks depth rows at end row here behind =
    let rest = drop (at + 1) rows in
    let test : nat_lt depth row.depth ≡ true = lt-ltb depth row.depth here.deeper in
    let later = trees_behind row.depth (shown_trees marks rest) in
    let node = shown_node marks row rest in (
      ap (shown_children marks depth) here.is ∙ ap (λ b. cond b (item node (children depth later)) no_items) test ∙ ap (λ ts. item node (children depth ts)) (sym behind.trees),
      ap (λ rs. trees_behind depth (shown_trees marks rs)) here.is ∙ ap (λ b. cond b (trees_behind depth later) (record { depth = row.depth; value = node } ∷ later)) test ∙ ap (trees_behind depth) (sym behind.trees),
    )

-- ---- nodes one after another

-- the items are read again
abbrev pub AreItemsAgain : Items → Type 0
AreItemsAgain ds = of_items (items_outline ds) ≡ Some ds

-- the tokens of the nodes in front, and what is left to print
pub record IsPrintedSoFar (marks : Marks) (depth : ℕ) (rows : List NodeRow) (from at : ℕ) (start now : Written) : Type 0 where
  pub tokens : now.tokens ++ items_tokens (items_outline (shown_children marks depth (drop at rows))) ≡ start.tokens ++ (key (codes "JDF") ∷ data_tokens (array (shown_children marks depth (drop from rows))))
  pub before : now.before ≡ start.before
  pub again : AreItemsAgain (shown_children marks depth (drop at rows)) → AreItemsAgain (shown_children marks depth (drop from rows))
  pub others : trees_behind depth (shown_trees marks (drop at rows)) ≡ trees_behind depth (shown_trees marks (drop from rows))
  pub names : list_all row_has_names (drop from rows) ≡ list_all row_has_names (drop at rows)
  pub texts : list_all row_has_texts (drop from rows) ≡ list_all row_has_texts (drop at rows)
  pub forward : from ≤ at

-- the list's start alone
pub printed_none : (marks : Marks) (depth : ℕ) (rows : List NodeRow) (from : ℕ) (start named begun : Written) → IsAppended (key (codes "JDF") ∷ []) start named → IsAppended (begin_array ∷ []) named begun → IsPrintedSoFar marks depth rows from from start begun
printed_none marks depth rows from start named begun name begin =
    let rest = items_tokens (items_outline (shown_children marks depth (drop from rows))) in
    let both = appended_more (key (codes "JDF") ∷ []) (begin_array ∷ []) start named begun name begin in
    record {
      tokens = ap (λ t. t ++ rest) both.tokens ∙ append_assoc start.tokens (key (codes "JDF") ∷ begin_array ∷ []) rest;
      before = both.before;
      again = λ h. h;
      others = refl;
      names = refl;
      texts = refl;
      forward = omega arith;
    }

-- what holds of a row and of none of those up to an index
known_more : (p : NodeRow → Bool) (rows : List NodeRow) (at end : ℕ) (row : NodeRow) → drop at rows ≡ row ∷ drop (at + 1) rows → p row ≡ true → list_all p (drop (at + 1) rows) ≡ list_all p (drop end rows) → list_all p (drop at rows) ≡ list_all p (drop end rows)
known_more p rows at end row is one rest = ap (list_all p) is ∙ ap (λ b. b && list_all p (drop (at + 1) rows)) one ∙ rest

pub printed_more : (marks : Marks) (depth : ℕ) (rows : List NodeRow) (from at end : ℕ) (row : NodeRow) (start old new : Written) → IsPrintedSoFar marks depth rows from at start old → IsDeeperAt depth rows at row
    → IsPrinted (shown_node marks row (drop (at + 1) rows)) old new → IsWalked marks row.depth rows (at + 1) end → row_has_names row ≡ true → row_has_texts row ≡ true → IsPrintedSoFar marks depth rows from end start new
printed_more marks depth rows from at end row start old new before here node walked names texts =
    let more = shown_more marks depth rows at end row here walked.behind in
    let shown = shown_node marks row (drop (at + 1) rows) in
    let left = shown_children marks depth (drop end rows) in
    let rest = items_tokens (items_outline left) in
    record {
      tokens = ap (λ t. t ++ rest) node.appended.tokens ∙ append_assoc old.tokens (data_tokens shown) rest ∙ ap (λ ds. old.tokens ++ items_tokens (items_outline ds)) (sym more.0) ∙ before.tokens;
      before = node.appended.before ∙ before.before;
      again = λ h. before.again (ap (λ ds. of_items (items_outline ds)) more.0 ∙ ap (option_and_then (λ d. option_map (item d) (of_items (items_outline left)))) node.again ∙ ap (option_map (item shown)) h ∙ ap Some (sym more.0));
      others = sym more.1 ∙ before.others;
      names = before.names ∙ known_more row_has_names rows at end row here.is names walked.names;
      texts = before.texts ∙ known_more row_has_texts rows at end row here.is texts walked.texts;
      forward = omega (arith, before.forward, walked.behind.forward);
    }

-- no row in front stands deeper
pub printed_all : (marks : Marks) (depth : ℕ) (rows : List NodeRow) (from at : ℕ) (start old new : Written) → IsPrintedSoFar marks depth rows from at start old → is_front_deeper depth (drop at rows) ≡ false → IsAppended (end_array ∷ []) old new
    → IsAppended (key (codes "JDF") ∷ data_tokens (array (shown_children marks depth (drop from rows)))) start new
printed_all marks depth rows from at start old new before stop end =
    let none = none_deeper depth (shown_trees marks (drop at rows)) (front_tree marks depth (drop at rows) ∙ stop) in
    record {
      tokens = end.tokens ∙ ap (λ ds. old.tokens ++ items_tokens (items_outline ds)) (sym none.0) ∙ before.tokens;
      before = end.before ∙ before.before;
    }

pub again_all : (marks : Marks) (depth : ℕ) (rows : List NodeRow) (from at : ℕ) (start now : Written) → IsPrintedSoFar marks depth rows from at start now → is_front_deeper depth (drop at rows) ≡ false → IsReadAgain (array (shown_children marks depth (drop from rows)))
again_all marks depth rows from at start now before stop =
    let none = none_deeper depth (shown_trees marks (drop at rows)) (front_tree marks depth (drop at rows) ∙ stop) in
    ap (option_map array) (before.again (ap (λ ds. of_items (items_outline ds)) none.0 ∙ ap Some (sym none.0)))

pub walked_all : (marks : Marks) (depth : ℕ) (rows : List NodeRow) (from at : ℕ) (start now : Written) → IsPrintedSoFar marks depth rows from at start now → is_front_deeper depth (drop at rows) ≡ false → IsWalked marks depth rows from at
walked_all marks depth rows from at start now before stop =
    let none = none_deeper depth (shown_trees marks (drop at rows)) (front_tree marks depth (drop at rows) ∙ stop) in
    record {
      behind = record { trees = sym none.1 ∙ before.others; forward = before.forward };
      names = before.names;
      texts = before.texts;
    }

-- ---- all rows behind a root are below it

twice_at : (deeper : Bool) (depth : ℕ) (t : Tree) (ts : List Tree) → nat_lt depth t.depth ≡ deeper → 1 ≤ depth → trees_behind 1 (trees_behind depth ts) ≡ trees_behind 1 ts → trees_behind 1 (cond deeper (trees_behind depth ts) (t ∷ ts)) ≡ trees_behind 1 (t ∷ ts)
twice_at true depth t ts e low go =
    let deep : 1 < t.depth = omega (arith, ltb-true depth t.depth e) in
    go ∙ ap (λ b. cond b (trees_behind 1 ts) (t ∷ ts)) (sym (lt-ltb 1 t.depth deep))
twice_at false depth t ts e low go = refl

-- what stands no deeper than a root is the same behind those that stand deeper than a node
others_twice : (depth : ℕ) (ts : List Tree) → 1 ≤ depth → trees_behind 1 (trees_behind depth ts) ≡ trees_behind 1 ts
others_twice depth [] low = refl
others_twice depth (t ∷ ts) low = twice_at (nat_lt depth t.depth) depth t ts refl low (others_twice depth ts low)

no_others : (marks : Marks) (above : ℕ) (rows : List NodeRow) → goes_on above (depths rows) ≡ true → trees_behind 1 (shown_trees marks rows) ≡ []
no_others marks above [] outline = refl
no_others marks above (r ∷ rows) outline =
    let parts = and_parts _ _ outline in
    let bounds = and_parts _ _ parts.0 in
    let low : 2 ≤ r.depth = leb-true _ _ bounds.0 in
    let later = trees_behind r.depth (shown_trees marks rows) in
    ap (λ b. cond b (trees_behind 1 later) (record { depth = r.depth; value = shown_node marks r rows } ∷ later)) (lt-ltb 1 r.depth low) ∙ others_twice r.depth (shown_trees marks rows) (omega (arith, low)) ∙ no_others marks r.depth rows parts.1

no_rows : (marks : Marks) (rows : List NodeRow) → shown_trees marks rows ≡ [] → rows ≡ []
no_rows marks [] e = refl
no_rows marks (r ∷ rows) e = cc

-- behind the rows that stand deeper than a root there is none
walked_past : (marks : Marks) (rows : List NodeRow) (root : NodeRow) (end : ℕ) → rows ≡ root ∷ drop 1 rows → is_outline (depths rows) ≡ true → IsWalked marks root.depth rows 1 end → drop end rows ≡ []
walked_past marks rows root end is outline walked =
    let parts = and_parts _ _ (ap (λ rs. is_outline (depths rs)) (sym is) ∙ outline) in
    let one : root.depth ≡ 1 = eqb-true _ _ parts.0 in
    no_rows marks (drop end rows) (walked.behind.trees ∙ ap (λ d. trees_behind d (shown_trees marks (drop 1 rows))) one ∙ no_others marks 1 (drop 1 rows) parts.1)

pub first_row : (rows : List NodeRow) (root : NodeRow) → Some root ≡ slice_get rows 0 → rows ≡ root ∷ drop 1 rows
first_row [] root found = cc
first_row (r ∷ rows) root found = cc

-- what holds of a root and of the rows that were walked holds of all
all_known : (p : NodeRow → Bool) (rows : List NodeRow) (root : NodeRow) (end : ℕ) → rows ≡ root ∷ drop 1 rows → p root ≡ true → list_all p (drop 1 rows) ≡ list_all p (drop end rows) → drop end rows ≡ [] → list_all p rows ≡ true
all_known p rows root end is one walked past = ap (list_all p) is ∙ and_from _ _ one (walked ∙ ap (list_all p) past)

pub all_names : (marks : Marks) (rows : List NodeRow) (root : NodeRow) (end : ℕ) → rows ≡ root ∷ drop 1 rows → is_outline (depths rows) ≡ true → IsWalked marks root.depth rows 1 end → row_has_names root ≡ true → list_all row_has_names rows ≡ true
all_names marks rows root end is outline walked names = all_known row_has_names rows root end is names walked.names (walked_past marks rows root end is outline walked)

pub all_texts : (marks : Marks) (rows : List NodeRow) (root : NodeRow) (end : ℕ) → rows ≡ root ∷ drop 1 rows → is_outline (depths rows) ≡ true → IsWalked marks root.depth rows 1 end → row_has_texts root ≡ true → list_all row_has_texts rows ≡ true
all_texts marks rows root end is outline walked texts = all_known row_has_texts rows root end is texts walked.texts (walked_past marks rows root end is outline walked)
