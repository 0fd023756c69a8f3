-- Laws of tokens that are printed for data.
use Rattle.std.proofs.Common.{◌≡◌, ◌∙◌, ℕ, suc, max, List, [], ◌≤◌, Some, option_and_then, option_map, refl, sym, ap, ap₂, append-nil, arith}
use Rattle.json.specs.Lex.{tokens}
use Rattle.json.specs.Json as json
use Rattle.json.specs.Print.{print}
use Rattle.json.specs.Tree as tree
use Rattle.json.proofs.Printed.Trees.{value-json_tokens}
use Rattle.serde_json.specs.Data.{Data, null, boolean, number, string, array, object, Items, no_items, item, Members, no_members, member, put, depth, items_depth, members_depth}
use Rattle.serde_json.specs.Read.{of_json, of_members, read, max_depth}
use Rattle.serde_json.specs.Written.{outline, items_outline, members_outline, compact_text}
use Rattle.serde_json.proofs.Texts.{print-outline}
use Rattle.json_text.specs.Printed.{data_tokens, AreReadAgain, IsReadAgain}
pub use Rattle.json_text.specs.Printed.{put_all}

-- ---- members and items that are read again

pub members_again : (ms found : Members) → AreReadAgain ms → of_members (members_outline ms) found ≡ Some (put_all ms found)
members_again no_members found all = refl
members_again (member k d ms) found all =
    ap (option_and_then (λ x. of_members (members_outline ms) (put k x found))) all.0 ∙ members_again ms (put k d found) all.1

-- an object whose members stand in order
pub object_again : (ms : Members) → AreReadAgain ms → put_all ms no_members ≡ ms → IsReadAgain (object ms)
object_again ms all order = ap (option_map object) (members_again ms no_members all ∙ ap Some order)

-- ---- how deep they nest

mutual
  pub depth-outline : (d : Data) → tree.depth (outline d) ≡ depth d
  depth-outline null = refl
  depth-outline (boolean b) = refl
  depth-outline (number n) = refl
  depth-outline (string s) = refl
  depth-outline (array ds) = ap suc (depth-items ds)
  depth-outline (object ms) = ap suc (depth-members ms)

  depth-items : (ds : Items) → tree.items_depth (items_outline ds) ≡ items_depth ds
  depth-items no_items = refl
  depth-items (item d ds) = ap₂ max (depth-outline d) (depth-items ds)

  depth-members : (ms : Members) → tree.members_depth (members_outline ms) ≡ members_depth ms
  depth-members no_members = refl
  depth-members (member k d ms) = ap₂ max (depth-outline d) (depth-members ms)

-- ---- texts

pub text_of_tokens : (d : Data) (text : List ℕ) → text ≡ print (data_tokens d) → text ≡ compact_text d
text_of_tokens d text e = e ∙ print-outline d

pub read_again : (d : Data) (text : List ℕ) → tokens text ≡ data_tokens d → depth d ≤ max_depth → IsReadAgain d → read text ≡ Some d
read_again d text e shallow again =
    ap (λ v. option_and_then of_json (option_and_then (λ p. json.if_last p.0 p.1) v)) (ap (json.value max_depth) (e ∙ sym (append-nil _)) ∙ value-json_tokens (outline d) max_depth [] (omega (arith, depth-outline d, shallow))) ∙ again
