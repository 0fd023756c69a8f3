-- The status of each refusal, and the phrase of each status.
use Rattle.std.specs.Prelude.{ℕ, List, [], unwrap_or}
use Rattle.http.specs.StatusCode.{reason_phrase}
use Rattle.ticket_items.specs.declared.refusal.Refusal.{Refusal}
use Rattle.ticket_items.specs.declared.refusal.Refusal.TheVariants.{Memory}
use Rattle.streams.specs.declared.refused.Refused.{Refused}
use Rattle.streams.specs.declared.refused.Refused.TheVariants as refusals

-- the status where a step was made
abbrev pub done_status : ℕ
done_status = 200

-- the status where a request is to blame
abbrev pub bad_status : ℕ
bad_status = 400

-- the status where a request names nothing that is there
abbrev pub missing_status : ℕ
missing_status = 404

-- 503 where memory ran out, and 400 for what is refused for what it is
abbrev pub core_status : Refusal → ℕ
core_status Memory = 503
core_status _ = 400

-- the status that answers a refusal
abbrev pub status_of : Refused → ℕ
status_of (refusals.Core e) = core_status e
status_of refusals.BadHead = 400
status_of refusals.NotPost = 405
status_of refusals.NoLength = 411
status_of refusals.TooLarge = 413
status_of refusals.CutShort = 400
status_of refusals.ReadFailed = 503
status_of refusals.WriteFailed = 503
status_of refusals.SaveFailed = 503
status_of refusals.Stale = 503
status_of refusals.LoadFailed = 503
status_of refusals.Coding = 501
status_of refusals.NoConnection = 503
status_of refusals.OtherName = 503
status_of refusals.Forbidden = 403

-- the phrase that stands behind a status
abbrev pub phrase_of : ℕ → List ℕ
phrase_of status = unwrap_or (reason_phrase status) []
