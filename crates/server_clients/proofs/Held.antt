-- How many bytes are kept of all.
use Rattle.std.proofs.Common.{◌≡◌, ◌+◌, ◌-◌, ◌^◌, ℕ, min, Option, None, Some, ap, refl}
use Rattle.std.specs.Option.{option_map}
use Rattle.server_clients.specs.Clients.{held_with}
use Rattle.server_clients.specs.declared.entry.Entry.{Entry}

-- a client that is there
pub held_some : (slot : Option Entry) (before bytes held : ℕ) → Some before ≡ option_map (λ e. e.held) slot → min (held - before + bytes) (2 ^ 64 - 1) ≡ held_with bytes slot held
held_some None before bytes held is = absurd (cc)
held_some (Some e) before bytes held is =
    let same : before ≡ e.held = cc in
    ap (λ b. min (held - b + bytes) (2 ^ 64 - 1)) same

-- nobody
pub held_none : (slot : Option Entry) (bytes held : ℕ) → None ≡ option_map (λ e. e.held) slot → held ≡ held_with bytes slot held
held_none None bytes held is = refl
held_none (Some e) bytes held is = absurd (cc)

-- as many are kept of a client as before
pub held_same : (bytes held : ℕ) (new old : Option Entry) → option_map (λ e. e.held) new ≡ option_map (λ e. e.held) old → held_with bytes new held ≡ held_with bytes old held
held_same bytes held None None is = refl
held_same bytes held None (Some e) is = absurd (cc)
held_same bytes held (Some f) None is = absurd (cc)
held_same bytes held (Some f) (Some e) is =
    let same : f.held ≡ e.held = cc in
    ap (λ b. min (held - b + bytes) (2 ^ 64 - 1)) same
