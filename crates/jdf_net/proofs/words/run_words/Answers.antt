use Rattle.std.proofs.Common.{◌≢◌, ◌∙◌, [], Bool, true, false, ap, inl, inr, map, refl, string_bytes, subst, sym}
use Rattle.std.proofs.lemmas.Bool.{true≢false}
use Rattle.clap.specs.Words.{fault_of, kind_of}
use Rattle.jdf_words.specs.Calls.{Tells}
use Rattle.jdf_words.specs.Commands.{jdf}
use Rattle.jdf_words.specs.declared.call_fault.CallFault.{CallFault}
use Rattle.jdf_words.specs.declared.call_fault.CallFault.TheVariants.{Clap, Memory}
use Rattle.jdf_net.proofs.words.run_words.Goals as goal

abbrev is_clap : CallFault → Bool
is_clap (Clap e) = true
is_clap Memory = false

pub returns-in-Ok : goal.returns-in-Ok
returns-in-Ok g c =
    inl (c.in-Ok.invocation, record { edit = c.in-Ok.ensures.named.0; named = c.in-Ok.ensures.named.1 }, c.run_invocation.ensures)

pub returns-in-Err-Clap : goal.returns-in-Err-Clap
returns-in-Err-Clap g c =
    let some : c.args.words.now ≢ [] = λ none. true≢false (sym (c.in-Err-Clap.ensures.edit none)) in
    let kinds = fault_of jdf (map string_bytes c.args.words.now) in
    inr (inl (record {
      some = some;
      wrong = λ taken. true≢false (ap is_clap (sym c.in-Err-Clap.field-0-is ∙ c.in-Err-Clap.ensures.passes taken));
      kind = kind_of c.in-Err-Clap.answer;
      among = (subst (Tells kinds) c.in-Err-Clap.field-0-is (c.in-Err-Clap.ensures.kinds some)).0;
      unread = refl;
      ends = c.answer_words.ensures;
    }))
