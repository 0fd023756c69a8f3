-- Clients who are put back or let go, one after the other.
use Rattle.std.proofs.Common.{◌≡◌, ◌∙◌, ◌++◌, ℕ, List, [], ◌∷◌, Option, None, Some, String, refl, string_bytes, subst, sym}
use Rattle.std.specs.declared.alloc.Global.{Global}
use Rattle.mio.specs.declared.net.stream.TcpStream.{TcpStream}
use Rattle.slab.specs.Slab.{Slab, Updates}
use Rattle.std.specs.Option.{option_map}
use Rattle.server_clients.specs.Clients.{Changes, InTurn, IsGivenBack, IsPutBack, with_client, with_note}
use Rattle.server_clients.specs.declared.entry.Entry.{Entry}
use Rattle.peers.specs.Client.{Connection}
use Rattle.rounds.specs.declared.answered.AnsweredClient.{AnsweredClient}

-- ---- one change after another

-- two changes at one number are one
pub changes_after : (first second : Entry → Entry) (key : ℕ) (old mid new : Slab Entry) → Changes first key old mid → Changes second key mid new → Changes (λ e. second (first e)) key old new
changes_after first second key old mid new one two =
    record {
      there = λ e is. two.there (first e) (one.there e is);
      others = λ other apart. two.others other apart ∙ one.others other apart;
    }

-- and of a number that is let go then, nothing stays
pub let_go_after : (change : Entry → Entry) (key : ℕ) (old mid new : Slab Entry) → Changes change key old mid → Updates mid new key None → Updates old new key None
let_go_after change key old mid new one two =
    record {
      changed = two.changed;
      others = λ other apart. two.others other apart ∙ one.others other apart;
    }

-- ---- a client who was answered

-- it is put back behind its note
pub back_with : (path : Option (String Global)) (a : AnsweredClient TcpStream) (c : Connection TcpStream) (old before mid new : Slab Entry) → before ≡ old → a.client ≡ Some c → Changes (with_note path a.told a.taken) a.key before mid → Changes (with_client c) a.key mid new → IsGivenBack (option_map string_bytes path) a old new
back_with path a c old before mid new same is noted put =
    let both = changes_after (with_note path a.told a.taken) (with_client c) a.key before mid new noted put in
    (path, refl, subst (λ found. IsPutBack found path a old new) (sym is) (subst (λ clients. Changes (λ e. with_client c (with_note path a.told a.taken e)) a.key clients new) same both))

-- it is let go behind its note
pub back_without : (path : Option (String Global)) (a : AnsweredClient TcpStream) (old before mid new : Slab Entry) → before ≡ old → a.client ≡ None → Changes (with_note path a.told a.taken) a.key before mid → Updates mid new a.key None → IsGivenBack (option_map string_bytes path) a old new
back_without path a old before mid new same is noted gone =
    let both = let_go_after (with_note path a.told a.taken) a.key before mid new noted gone in
    (path, refl, subst (λ found. IsPutBack found path a old new) (sym is) (subst (λ clients. Updates clients new a.key None) same both))

-- ---- many

module _ {X : Type 0} (so : X → Slab Entry → Slab Entry → Type 0) where
  -- one more
  pub one_more : (xs : List X) (x : X) (old mid new : Slab Entry) → InTurn so xs old mid → so x mid new → InTurn so (xs ++ x ∷ []) old new
  one_more [] x old mid new all is =
      (new, subst (λ clients. so x clients new) all is, refl)
  one_more (y ∷ xs) x old mid new all is =
      (all.0, all.1, one_more xs x all.0 mid new all.2 is)
