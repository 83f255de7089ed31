-- A sink in memory, as its callers see it.
use Rattle.std.specs.Prelude.{ℕ, ◌+◌, List, ◌++◌, Option, Bool, if◌then◌else◌, length, take, ◌==◌, nat_le}
use Rattle.std.specs.List.{find}
use Rattle.std.specs.Option.{option_map, unwrap_or}
use Rattle.outside.specs.Device.{one_more}

pub record SinkState : Type 0 where
  -- all bytes that were put
  pub bytes : List ℕ
  -- how many bytes it has room for
  pub room : ℕ
  -- the numbers of the puts that fail, each with how many bytes it keeps
  pub failing : List (ℕ × ℕ)
  -- how many puts there were
  pub puts : ℕ
  -- how many of them failed
  pub faults : ℕ

-- how many bytes the next put keeps, where it is one that fails
abbrev pub planned : SinkState → Option ℕ
planned s = option_map (λ plan. plan.1) (find (λ plan. plan.0 == one_more s.puts) s.failing)

-- the bytes of a piece that the next put is to keep
abbrev pub wanted : SinkState → List ℕ → List ℕ
wanted s piece = take (unwrap_or (planned s) (length piece)) piece

-- there is room for them
abbrev pub has_room : SinkState → List ℕ → Bool
has_room s piece = nat_le (length s.bytes + length (wanted s piece)) s.room

-- the sink after a put that took the whole piece
abbrev pub with_piece : SinkState → List ℕ → SinkState
with_piece s piece = record s { bytes = s.bytes ++ piece; puts = one_more s.puts }

-- the sink after a put that failed, which keeps what it is to keep where there is room for that
abbrev pub with_failure : SinkState → List ℕ → SinkState
with_failure s piece = record s { bytes = if has_room s piece then s.bytes ++ wanted s piece else s.bytes; puts = one_more s.puts; faults = one_more s.faults }
