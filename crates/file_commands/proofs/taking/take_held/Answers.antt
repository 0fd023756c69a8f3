use Rattle.std.proofs.Common.{◌∙◌, inl, inr}
use Rattle.stored_state.specs.Opened.{kept_of}
use Rattle.file_commands.proofs.taking.take_held.Goals as goal

pub returns-in-Ok-clause-ok : goal.returns-in-Ok-clause-ok
returns-in-Ok-clause-ok g c =
    record {
      before = kept_of c.in_ok-opened.opened;
      loaded = c.in_ok-opened.ensures.ok;
      gives = c.in-Ok.ensures.ok;
      honest = c.in-Ok.ensures.honest ∙ c.in_ok-opened.ensures.ok.honest;
      placed = c.in-Ok.ensures.place ∙ c.in_ok-opened.ensures.ok.placed;
      again = λ honest. c.in-Ok.ensures.again (c.in_ok-opened.ensures.ok.honest ∙ honest);
    }

pub returns-in-Err-clause-refused : goal.returns-in-Err-clause-refused
returns-in-Err-clause-refused g c =
    inr (kept_of c.in_ok-opened.opened, c.in_ok-opened.ensures.ok, kept_of c.take.new.self, inl (c.in-Err.refused, c.fault_of.ensures, c.in-Err.ensures.refused))
