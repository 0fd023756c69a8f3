-- How the messages of open work fare.
use Rattle.std.specs.Prelude.{ℕ, ◌-◌, Bool, Option, Some, None, false, is_some, nat_le}
use Rattle.shop_page.specs.declared.delivery.Delivery.{Delivery}
use Rattle.shop_page.specs.declared.delivery.Delivery.TheVariants.{Refused, Waits}
use Rattle.shop_page.specs.declared.open_work.OpenWork.{OpenWork}
use Rattle.shop_page.specs.declared.open_work.TheConstants.{LONG}

-- the number of the refusal, if it was refused
abbrev pub refusal_of : Delivery → Option ℕ
refusal_of (Refused number) = Some number
refusal_of _ = None

-- no answer came yet, at this time, to what went out at that one, for as long as is too long
abbrev pub waits_long : ℕ → Delivery → ℕ → Bool
waits_long now Waits at = nat_le LONG (now - at)
waits_long now _ at = false

-- the message of work was refused
abbrev pub is_refused : OpenWork → Bool
is_refused w = is_some (refusal_of w.delivery)

-- the message of work waits too long for an answer
abbrev pub is_late : ℕ → OpenWork → Bool
is_late now w = waits_long now w.delivery w.work.now.at
