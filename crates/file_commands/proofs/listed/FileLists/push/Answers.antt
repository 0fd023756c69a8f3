use Rattle.std.proofs.Common.{Err, Ok, refl, subst, sym, true}
use Rattle.file_commands.specs.declared.listed.FileLists.{FileLists as ListedSeen}
use Rattle.file_commands.specs.Listing.{IsOwn}
use Rattle.file_commands.proofs.ListedFiles.{adds_listed, adds_unlisted}
use Rattle.file_commands.proofs.listed.FileLists.push.Goals as goal

pub returns-in_ok-push-in-Ok : goal.returns-in_ok-push-in-Ok
returns-in_ok-push-in-Ok g c =
    let controller = c.controller.result.now in
    let old = c.args.self.now in
    let new : ListedSeen = record { lists = c.push.new.self; notes = old.notes; refused = old.refused } in
    let own = subst (IsOwn c.args.file.now) (sym c.controller.ensures) c.in-Ok.ensures.ok in
    (Ok controller, own, adds_listed c.args.asked c.args.file.now controller old new c.in_ok-push-in-Ok.ensures.first c.in_ok-push-in-Ok.ensures.rest refl refl)

pub returns-in_ok-push_note-in-Err : goal.returns-in_ok-push_note-in-Err
returns-in_ok-push_note-in-Err g c =
    let fault = c.in-Err.fault in
    let old = c.args.self.now in
    let new : ListedSeen = record { lists = old.lists; notes = c.push_note.new.notes; refused = true } in
    (Err fault, c.in-Err.ensures.refused, adds_unlisted c.args.asked c.args.file.now fault old new refl refl c.in_ok-push_note-in-Err.ensures refl)
