-- What comes back of a message that goes out.
use Rattle.std.specs.Prelude.{◌≡◌, ◌≢◌, ℕ, List, Some, Ok}
use Rattle.http_message.specs.declared.received.Received.{Received}
use Rattle.ticket_items.specs.declared.refusal.Refusal.{Refusal}
use Rattle.jmf_message.specs.Decoded.{IsDecodedAs, IsRefusalOf}
use Rattle.jmf_message.specs.Refused.{refusal_told}
use Rattle.server_post.specs.declared.own.Parcel.{Parcel}
use Rattle.server_post.specs.declared.own.Task.TheVariants.{Take}
use Rattle.jdf_server.specs.Flights.{EndsFlight, FailsFlight, SettlesFlight}
use Rattle.jdf_server.specs.Posting.{JoinsOwn}
use Rattle.jdf_server.specs.declared.calling.CallResult.{CallResult}
use Rattle.jdf_server.specs.declared.calling.CallResult.TheVariants.{Answer, Nothing, Status, TooLarge}
use Rattle.jdf_server.specs.declared.calling.TheConstants.{DONE, TOO_LARGE}
use Rattle.jdf_server.specs.declared.server.Server.{Server}

-- what a response says: the message that it carries, with what that refuses; or that the one that
-- went out is too large; or its status, where that is another; or nothing, where it carries no message
abbrev pub Says : Received → CallResult → Type 0
Says r (Answer m refusal) =
    (r.status ≡ DONE) × IsDecodedAs r.body (Ok m) × (refusal ≡ refusal_told m.body)
Says r TooLarge = r.status ≡ TOO_LARGE
Says r (Status status) = (r.status ≢ TOO_LARGE) × (r.status ≢ DONE) × (status ≡ r.status)
Says r Nothing = (r.status ≡ DONE) × ((e : Refusal) × IsRefusalOf r.body e)

-- what is done behind a call: the controller is to take the answer, with what that refuses; what is
-- too large is refused so; and what has another status, or nothing is known of, failed
abbrev pub FollowsCall : {R F : Type 0} → List ℕ → Parcel → CallResult → (old new : Server R F)
    → Type 0
FollowsCall path parcel (Answer m refusal) old new =
    (until : ℕ)
    × JoinsOwn path (record { parcel = parcel; task = Take m refusal; until = until }) old new
FollowsCall path parcel TooLarge old new =
    EndsFlight (SettlesFlight old.clients.now (Some TOO_LARGE)) parcel.line old.post new.post
FollowsCall path parcel (Status status) old new =
    EndsFlight (FailsFlight old.clients.now) parcel.line old.post new.post
FollowsCall path parcel Nothing old new =
    EndsFlight (FailsFlight old.clients.now) parcel.line old.post new.post
