-- What a queue answers to a claim. Assumes nothing.
use Rattle.std.specs.Prelude.{◌&&◌, Ok, Err, Result, length, if◌then◌else◌, nat_le, nat_lt}
use Rattle.allocation.specs.declared.claims.Claim.{Claim}
use Rattle.wheel_demo.specs.Queues.{Standing}
use Rattle.wheel_demo.specs.declared.queues.refusing.Refused.{Refused}
use Rattle.wheel_demo.specs.declared.queues.refusing.Refused.TheVariants.{Full, Participant, Size}

-- whether queues take the claim: a participant from 1 to 24, and a size from 1 to 500,000
abbrev pub admitted : Claim → Result (Unit {0}) Refused
admitted c =
    if nat_le 1 c.participant && nat_le c.participant 24
    then (if nat_le 1 c.size && nat_le c.size 500000 then Ok tt else Err Size)
    else Err Participant

-- a queue holds 64 claims
abbrev pub answer : Standing → Claim → Result (Unit {0}) Refused
answer s c = if nat_lt (length s.claims) 64 then admitted c else Err Full
