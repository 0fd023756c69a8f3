-- Those of a line who wait no longer, and those who wait on.
use Rattle.std.specs.Prelude.{ℕ, Bool, true, List, Option, Some, None}
use Rattle.mio.specs.declared.net.stream.TcpStream.{TcpStream}
use Rattle.slab.specs.Slab.{Slab, get}
use Rattle.streams.specs.declared.refused.Refused.TheVariants.{LoadFailed}
use Rattle.rounds.specs.Line.{AreRefused, waiting_of}
use Rattle.rounds.specs.Parted.{IsParted, is_late}
use Rattle.rounds.specs.declared.answered.AnsweredClient.{AnsweredClient}
use Rattle.rounds.specs.declared.errand.Errand.{Errand}
use Rattle.server_clients.specs.Clients.{AreGivenBack}
use Rattle.server_clients.specs.declared.entry.Entry.{Entry}

-- the connection of a client is broken, or there is none
abbrev pub is_broken : Option Entry → Bool
is_broken (Some e) = e.is_gone
is_broken None = true

-- that of the one with an errand is
abbrev pub is_gone : Slab Entry → Errand TcpStream → Bool
is_gone clients e = is_broken (get clients e.waiting.key)

-- those who waited as long as they may are refused and put back, and these are left
pub record RefusesLate (path : List ℕ) (now : ℕ) (errands left : List (Errand TcpStream))
    (old new : Slab Entry) : Type 0 where
  pub late : List (Errand TcpStream)
  pub parted : IsParted (is_late now) errands left late
  pub answered : List (AnsweredClient TcpStream)
  pub refused : AreRefused now LoadFailed (waiting_of late) answered
  pub back : AreGivenBack (Some path) answered old new
