use Rattle.std.proofs.Common.{ap, codes, refl}
use Rattle.serde_json.specs.Data.{string}
use Rattle.json_text.proofs.PrintedObjects.{more_members, one_member, opened, same_member}
use Rattle.journal.specs.Line.{spawn_of_reply, who, word_of}
use Rattle.journal.proofs.Steps.{ended}
use Rattle.journal.proofs.line.print_step.Goals as goal

pub returns : goal.returns
returns c =
    let s = c.args.step.now in
    let o0 = opened c.begin_object.result c.args.out.now c.begin_object.new.self c.begin_object.ensures c.in_ok-begin_object.ensures.ok in
    let o1 = more_members _ c.print_by.new.out o0 c.in_ok-print_by.ensures.appended c.in_ok-print_by.ensures.again in
    let o2 = one_member (codes "Controller") (string s.controller.now) c.print_text.new.out o1 c.in_ok-print_text.ensures refl in
    let o3 = same_member (codes "Reply") _ (string (word_of s.reply)) c.print_text-2.new.out o2 c.in_ok-print_text-2.ensures refl (ap string c.word.ensures) in
    let o4 = more_members _ c.print_spawn.new.out o3 c.in_ok-print_spawn.ensures.appended c.in_ok-print_spawn.ensures.again in
    let o5 = one_member _ _ c.print_member.new.out o4 c.in_ok-print_member.ensures.printed c.in_ok-print_member.ensures.again in
    let o6 = one_member (codes "What") (string s.what.now) c.print_text-3.new.out o5 c.in_ok-print_text-3.ensures refl in
    ended (who s.by) s.controller.now (word_of s.reply) (spawn_of_reply s.reply) s.at s.what.now c.end_object.result c.end_object.new.self o6 c.end_object.ensures
