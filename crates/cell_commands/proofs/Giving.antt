-- What is given out of a step in a cell.
use Rattle.std.proofs.Common.{◌≡◌, ℕ, Bool, true, false, List, [], sym, subst}
use Rattle.std.specs.Prelude.{Option, Result, Ok, option_map}
use Rattle.std.proofs.lemmas.Bool.{true≢false}
use Rattle.cells.specs.Chain.{Version}
use Rattle.cells.specs.Kept.{IsPartOf, IsStepped}
use Rattle.ticket_items.specs.declared.refusal.Refusal.{Refusal}
use Rattle.world_items.specs.declared.reply.Reply.{Reply}
use Rattle.stored_state.specs.AnyStep.{IsHanded, IsOrdered}
use Rattle.stored_state.specs.Opened.{controller_in}
use Rattle.stored_state.specs.declared.any_controller.AnyController.{AnyController}
use Rattle.stored_state.specs.declared.any_kept.AnyKept.{AnyKept}
use Rattle.stored_state.specs.declared.order_bytes.OrderBytes.{OrderBytes}
use Rattle.stored_state.specs.declared.taken_bytes.TakenBytes.{TakenBytes}
use Rattle.streams.specs.Streams.{Traffic}
use Rattle.file_commands.specs.Commands.{Steps}
use Rattle.file_commands.specs.Step.{is_refused, step_lines}
use Rattle.jdf_words.specs.declared.kept_call.KeptCall.{KeptCall}
use Rattle.jdf_words.specs.declared.kept_call.KeptCall.TheVariants.{List as Listing, New, Order, Show, Take}
use Rattle.file_commands.specs.Notes.{no_notes, notes_of_order}
use Rattle.cell_commands.specs.Calls.{DoesStep, IsOutputInCell}
use Rattle.cell_commands.proofs.Begun.{any_begins}
use Rattle.cell_commands.specs.Given.{GivesBytes, GivesBytesLine, GivesBytesNoting, GivesLine, GivesStep}
use Rattle.cell_commands.specs.Steps.{MakesOrder, MakesStep, MakesTaking}
use Rattle.cells.proofs.Keeping.{stepped_since}

-- of an order's step
pub ordered_gives : {K : Type 0} (is_honest : Bool) (old new : List Version) (at : ℕ) (bytes : List ℕ) (given : OrderBytes × AnyKept K) → ((held : List ℕ) × ((text : List ℕ) × MakesOrder at bytes held text (Ok given))) → (is_honest ≡ true → IsStepped (MakesOrder at bytes) old new (Ok given)) → GivesBytes (IsOrdered at) is_honest old new bytes given.0.reply (option_map (λ b. b.items) given.0.message) (controller_in given.1)
ordered_gives is_honest old new at bytes given made stepped = record {
  held = made.0;
  text = made.1.0;
  makes = made.1.1;
  stepped = λ honest. record {
    chain = (stepped honest).chain;
    since = (stepped honest).since;
    bytes = (stepped honest).bytes;
    makes_it = (stepped honest).makes_it;
    leaves = (stepped honest).leaves;
  };
}

-- of a message's
pub taken_gives : {K : Type 0} (is_honest : Bool) (old new : List Version) (at : ℕ) (bytes : List ℕ) (given : TakenBytes × AnyKept K) → ((held : List ℕ) × ((text : List ℕ) × MakesTaking at bytes held text (Ok given))) → (is_honest ≡ true → IsStepped (MakesTaking at bytes) old new (Ok given)) → GivesBytes (IsHanded at) is_honest old new bytes given.0.reply (option_map (λ b. b.items) given.0.answer) (controller_in given.1)
taken_gives is_honest old new at bytes given made stepped = record {
  held = made.0;
  text = made.1.0;
  makes = made.1.1;
  stepped = λ honest. record {
    chain = (stepped honest).chain;
    since = (stepped honest).since;
    bytes = (stepped honest).bytes;
    makes_it = (stepped honest).makes_it;
    leaves = (stepped honest).leaves;
  };
}

-- since a look before it
since_bytes : (IsStep : Steps) (is_honest : Bool) (old mid new : List Version) (bytes : List ℕ) (reply : Result Reply Refusal) (sent : Option (List ℕ)) (after : AnyController) → (is_honest ≡ true → IsPartOf old mid) → GivesBytes IsStep is_honest mid new bytes reply sent after → GivesBytes IsStep is_honest old new bytes reply sent after
since_bytes IsStep is_honest old mid new bytes reply sent after grows gives = record {
  held = gives.held;
  text = gives.text;
  makes = gives.makes;
  stepped = λ honest. stepped_since _ old mid new after (grows honest) (gives.stepped honest);
}

pub since_noting : (IsStep : Steps) (is_honest : Bool) (old mid new : List Version) (bytes : List ℕ) (reply : Result Reply Refusal) (sent : Option (List ℕ)) (behind : AnyController → List ℕ) (notes : List ℕ) → (is_honest ≡ true → IsPartOf old mid) → GivesBytesNoting IsStep is_honest mid new bytes reply sent behind notes → GivesBytesNoting IsStep is_honest old new bytes reply sent behind notes
since_noting IsStep is_honest old mid new bytes reply sent behind notes grows gives = record {
  after = gives.after;
  gives = since_bytes IsStep is_honest old mid new bytes reply sent gives.after grows gives.gives;
  noted = gives.noted;
}

pub since_line : {J : Type 0} (IsStep : Steps) (is_honest : Bool) (old mid new : List Version) (bytes : List ℕ) (reply : Result Reply Refusal) (sent : Option (List ℕ)) (held : J → List ℕ) (is_missed : J → Bool) (IsLine : List ℕ → Reply → List ℕ → Type 0) (before behind : J) → (is_honest ≡ true → IsPartOf old mid) → GivesBytesLine IsStep is_honest mid new bytes reply sent held is_missed IsLine before behind → GivesBytesLine IsStep is_honest old new bytes reply sent held is_missed IsLine before behind
since_line IsStep is_honest old mid new bytes reply sent held is_missed IsLine before behind grows gives = record {
  after = gives.after;
  gives = since_bytes IsStep is_honest old mid new bytes reply sent gives.after grows gives.gives;
  lines = gives.lines;
}

-- of a cell of which nothing is promised
any_bytes : (IsStep : Steps) (is_honest : Bool) (old new : List Version) (bytes : List ℕ) (reply : Result Reply Refusal) (sent : Option (List ℕ)) (after : AnyController) → GivesBytes IsStep is_honest old new bytes reply sent after → GivesBytes IsStep false [] [] bytes reply sent after
any_bytes IsStep is_honest old new bytes reply sent after gives = record {
  held = gives.held;
  text = gives.text;
  makes = gives.makes;
  stepped = λ honest. absurd (true≢false (sym honest));
}

pub any_noting : (IsStep : Steps) (is_honest : Bool) (old new : List Version) (bytes : List ℕ) (reply : Result Reply Refusal) (sent : Option (List ℕ)) (behind : AnyController → List ℕ) (notes : List ℕ) → GivesBytesNoting IsStep is_honest old new bytes reply sent behind notes → GivesBytesNoting IsStep false [] [] bytes reply sent behind notes
any_noting IsStep is_honest old new bytes reply sent behind notes gives = record {
  after = gives.after;
  gives = any_bytes IsStep is_honest old new bytes reply sent gives.after gives.gives;
  noted = gives.noted;
}

pub any_line : {J : Type 0} (IsStep : Steps) (is_honest : Bool) (old new : List Version) (input : Traffic) (reply : Result Reply Refusal) (sent : Option (List ℕ)) (held : J → List ℕ) (is_missed : J → Bool) (IsLine : List ℕ → List ℕ → Reply → List ℕ → Type 0) (before behind : J) → GivesLine IsStep is_honest old new input reply sent held is_missed IsLine before behind → GivesLine IsStep false [] [] input reply sent held is_missed IsLine before behind
any_line IsStep is_honest old new input reply sent held is_missed IsLine before behind gives = (
  gives.0,
  gives.1,
  record {
    after = gives.2.after;
    gives = any_bytes IsStep is_honest old new gives.0 reply sent gives.2.after gives.2.gives;
    lines = gives.2.lines;
  },
)

-- an order or a message gave this out, and that is written
pub does_step : (IsStep : Steps) (notes_behind : Result Reply Refusal → AnyController → List ℕ) (is_honest : Bool) (old new : List Version) (input : Traffic) (reply : Result Reply Refusal) (sent : Option (List ℕ)) (noted text : List ℕ) (refused : Bool) (notes : List ℕ) → GivesStep IsStep is_honest old new input reply sent (notes_behind reply) noted → text ≡ step_lines reply sent → refused ≡ is_refused reply → notes ≡ noted → DoesStep IsStep notes_behind is_honest old new input text refused notes
does_step IsStep notes_behind is_honest old new input reply sent noted text refused notes gives written told same = record {
  reply = reply;
  sent = sent;
  given = (gives.0, gives.1, subst (λ n. GivesBytesNoting IsStep is_honest old new gives.0 reply sent (notes_behind reply) n) (sym same) gives.2);
  written = written;
  told = told;
}

any_step : (IsStep : Steps) (notes_behind : Result Reply Refusal → AnyController → List ℕ) (is_honest : Bool) (old new : List Version) (input : Traffic) (text : List ℕ) (refused : Bool) (notes : List ℕ) → DoesStep IsStep notes_behind is_honest old new input text refused notes → DoesStep IsStep notes_behind false [] [] input text refused notes
any_step IsStep notes_behind is_honest old new input text refused notes does = record {
  reply = does.reply;
  sent = does.sent;
  given = (does.given.0, does.given.1, any_noting IsStep is_honest old new does.given.0 does.reply does.sent (notes_behind does.reply) notes does.given.2);
  written = does.written;
  told = does.told;
}

-- any call
pub any_output : (is_honest : Bool) (old new : List Version) (call : KeptCall) (input : Traffic) (text : List ℕ) (refused : Bool) (notes : List ℕ) → IsOutputInCell is_honest old new call input text refused notes → IsOutputInCell false [] [] call input text refused notes
any_output is_honest old new New input text refused notes is = any_begins _ _ _ _ _ _ _ is
any_output is_honest old new (Order at) input text refused notes is = any_step (IsOrdered at) notes_of_order is_honest old new input text refused notes is
any_output is_honest old new (Take at) input text refused notes is = any_step (IsHanded at) no_notes is_honest old new input text refused notes is
any_output is_honest old new (Show picture at) input text refused notes is = (is.0, (is.1.0, is.1.1, is.1.2, λ honest. absurd (true≢false (sym honest))))
any_output is_honest old new (Listing at is_open is_json) input text refused notes is = (is.0, (is.1.0, is.1.1, is.1.2, λ honest. absurd (true≢false (sym honest))))
