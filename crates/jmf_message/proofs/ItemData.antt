-- Items, their data, and the order in which the members of a message stand.
use Rattle.std.proofs.Common.{◌≡◌, ◌∙◌, ℕ, ◌+◌, ◌<◌, List, ◌∷◌, codes, drop, get_or, length, Bor, Global, Ok, Err, Vec, ap, refl, sym, rules}
use Rattle.std.proofs.lemmas.List.{drop_more}
use Rattle.serde_json.specs.Data.{Members, no_members, member, put, number, unsigned, string, object}
use Rattle.json_text.proofs.Tokens.{put_all}
use Rattle.controller.specs.declared.command.Command.TheVariants.{Submit, Return, Abort}
use Rattle.controller.specs.declared.message.Message.{Message}
use Rattle.jmf_message.specs.Items.{IsOrdered, item_data, members_data, put_each}
use Rattle.jmf_message.specs.Written.{family_of, jmf_data, put_said, said_data}
use Rattle.jmf_message.specs.declared.items.Item.{Item, Object, the_lemmas}
use Rattle.jmf_message.specs.declared.family.Family.{Family}
use Rattle.jmf_message.specs.declared.family.Family.TheVariants as said

-- ---- data

pub data_object : (ms : Vec (Bor (List ℕ) × Item) Global) → item_data (Object ms) ≡ object (members_data ms.items)
data_object ms = search (rules, the_lemmas)

-- what is left, from the first on
pub members_at : (ms : List (Bor (List ℕ) × Item)) (i : ℕ) (m : Bor (List ℕ) × Item) → i < length ms → m ≡ get_or ms i m
    → members_data (drop i ms) ≡ member m.0.now (item_data m.1) (members_data (drop (i + 1) ms))
members_at ms i m within is = ap members_data (drop_more ms i m within ∙ ap (λ x. x ∷ drop (i + 1) ms) (sym is))

-- ---- order

pub put_again : (more ms : Members) → put_all more ms ≡ put_each more ms
put_again no_members ms = refl
put_again (member name d more) ms = put_again more (put name d ms)

said_ordered : (sender : List ℕ) (s : Family) → IsOrdered (said_data sender s)
said_ordered sender (said.Command Submit n) = (refl, (tt, ((refl, (tt, (tt, (tt, (tt, tt))))), (tt, tt))))
said_ordered sender (said.Command Return n) = (refl, (tt, ((refl, (tt, (tt, tt))), (tt, tt))))
said_ordered sender (said.Command Abort n) = (refl, ((refl, (tt, tt)), (tt, (tt, tt))))
said_ordered sender (said.Answer asked n (Ok status)) = (refl, (tt, ((refl, (tt, (tt, tt))), (tt, (tt, (tt, (tt, tt)))))))
said_ordered sender (said.Answer asked n (Err reason)) = (refl, (tt, (tt, (tt, (tt, (tt, tt))))))

ordered_at : (m : Message) (s : Family)
    → IsOrdered (object (put_said m.sender s (member (codes "ReceiverID") (string m.receiver) (member (codes "SenderID") (string m.sender) (member (codes "TimeStamp") (number (unsigned m.at)) (member (codes "Version") (string (codes "1.5")) no_members))))))
ordered_at m (said.Command asked n) = (refl, (said_ordered m.sender (said.Command asked n), (tt, (tt, (tt, (tt, tt))))))
ordered_at m (said.Answer asked n told) = (refl, (tt, (said_ordered m.sender (said.Answer asked n told), (tt, (tt, (tt, tt))))))

pub jmf_ordered : (m : Message) → IsOrdered (jmf_data m)
jmf_ordered m = ordered_at m (family_of m.body)
