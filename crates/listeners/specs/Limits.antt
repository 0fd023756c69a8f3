-- The limits of the connections of those who look at the page or give orders.
use Rattle.std.specs.Prelude.{ℕ}
use Rattle.http_message.specs.declared.methods.Methods.{Methods}
use Rattle.peers.specs.declared.limits.Limits.{Limits}

-- a request comes within 5 seconds, its step takes 30 at most, its response is written within 10,
-- and for 1 second behind that at most 16,384 bytes are thrown away
abbrev pub guest_limits : Methods → ℕ → Limits
guest_limits methods body =
    record {
      methods = methods;
      request = 5000;
      step = 30000;
      write = 10000;
      linger = 1000;
      spare = 16384;
      body = body;
    }
