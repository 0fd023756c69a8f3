-- Moments, in seconds since 1970, and spans of time, for people.
use Rattle.std.specs.Prelude.{ℕ, ◌==◌, ◌/◌, ◌%◌, List, ◌++◌, codes, decimal, if◌then◌else◌, nat_lt}

-- the day of the week on which the day of a number falls; 1970 began with a Thursday
unfoldable pub weekday : ℕ → List ℕ
weekday day =
    if day % 7 == 0 then codes "Thu" else
    if day % 7 == 1 then codes "Fri" else
    if day % 7 == 2 then codes "Sat" else
    if day % 7 == 3 then codes "Sun" else
    if day % 7 == 4 then codes "Mon" else
    if day % 7 == 5 then codes "Tue" else codes "Wed"

-- a number below 100, in two digits
unfoldable pub two_digits : ℕ → List ℕ
two_digits n = decimal (n / 10) ++ decimal (n % 10)

-- a moment, as `Sat 07:41 UTC`
unfoldable pub moment_text : ℕ → List ℕ
moment_text at =
    weekday (at / 86_400) ++ codes " " ++ two_digits (at / 3600 % 24) ++ codes ":"
    ++ two_digits (at / 60 % 60) ++ codes " UTC"

-- a span of seconds: in days and hours, in hours and minutes, or in minutes
unfoldable pub span_text : ℕ → List ℕ
span_text secs =
    if nat_lt secs 3600 then decimal (secs / 60) ++ codes " min" else
    if nat_lt secs 86_400
    then decimal (secs / 3600) ++ codes " h " ++ decimal (secs / 60 % 60) ++ codes " min"
    else decimal (secs / 86_400) ++ codes " d " ++ decimal (secs / 3600 % 24) ++ codes " h"
