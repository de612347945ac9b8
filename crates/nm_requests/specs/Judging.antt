-- How a request is judged against an export: by a table whose first row that applies decides.
use Rattle.std.specs.Prelude.{◌≡◌, ℕ, ◌+◌, ◌^◌, ◌<◌, ◌≤◌, Bool, true, not, ◌&&◌, ◌||◌, List, []}
use Rattle.std.specs.Prelude.{◌∷◌, ◌==◌, nat_lt, bit_and, Result, Ok, Err}
use Rattle.std.specs.Bool.{MatchBool}
use Rattle.nm_wire.specs.declared.command.Command.TheVariants as command
use Rattle.nm_wire.specs.declared.command.Command.{Command}
use Rattle.nm_wire.specs.declared.export.Export.{Export}
use Rattle.nm_wire.specs.Command.{command_number}
use Rattle.nm_wire.specs.Export.{size_of}
use Rattle.nm_wire.specs.Sizes.{max_payload}
use Rattle.nm_requests.specs.declared.request.Request.{Request}
use Rattle.nm_requests.specs.declared.task.Task.TheVariants as task
use Rattle.nm_requests.specs.declared.task.Task.{Task}

-- the error values ("Error values"): not permitted, not valid, no space
abbrev pub not_permitted : ℕ
not_permitted = 1

abbrev pub not_valid : ℕ
not_valid = 22

abbrev pub no_space : ℕ
no_space = 28

-- a row of the table: whether it applies, and its result
pub record Row : Type 0 where
  pub applies : Bool
  pub result : Result Task ℕ

abbrev pub row : Bool → Result Task ℕ → Row
row applies result = record { applies = applies; result = result }

-- the result of the first row that applies
abbrev pub IsFirst : List Row → Result Task ℕ → Type 0
IsFirst [] result = ⊥
IsFirst (r ∷ rows) result = MatchBool r.applies (result ≡ r.result) (IsFirst rows result)

-- whether the request asks for this
abbrev pub asks : Request → Command → Bool
asks request command = request.kind == command_number command

abbrev pub is_read : Request → Bool
is_read request = asks request command.Read

abbrev pub is_write : Request → Bool
is_write request = asks request command.Write

abbrev pub is_disconnect : Request → Bool
is_disconnect request = asks request command.Disconnect

abbrev pub is_flush : Request → Bool
is_flush request = asks request command.Flush

abbrev pub is_trim : Request → Bool
is_trim request = asks request command.Trim

abbrev pub is_write_zeroes : Request → Bool
is_write_zeroes request = asks request command.WriteZeroes

-- whether its type is one of those that are served
abbrev pub is_known : Request → Bool
is_known request =
    is_read request || (is_write request || (is_disconnect request
    || (is_flush request || (is_trim request || is_write_zeroes request))))

-- whether it would change the data
abbrev pub is_change : Request → Bool
is_change request = is_write request || (is_trim request || is_write_zeroes request)

-- whether each bit of the others is set
abbrev pub contains : ℕ → ℕ → Bool
contains flags others = bit_and flags others == others

-- the flags FUA, bit 0, and NO_HOLE, bit 1 ("Command flags")
abbrev pub fua : ℕ
fua = 2 ^ 0

abbrev pub no_hole : ℕ
no_hole = 2 ^ 1

-- whether its data are to be durable before the reply
abbrev pub has_fua : Request → Bool
has_fua request = contains request.flags.0 fua

-- whether it ends past the export's end, in numbers without a limit
abbrev pub is_past_end : Request → Export → Bool
is_past_end request export = nat_lt (size_of export) (request.offset + request.length)

-- the twelve rows, top first
abbrev pub table : Request → Export → List Row
table request export =
    row (is_disconnect request) (Ok task.Disconnect)
    ∷ row (not (is_known request)) (Err not_valid)
    ∷ row (not (contains (fua + no_hole) request.flags.0)) (Err not_valid)
    ∷ row (is_flush request) (Ok task.Flush)
    ∷ row (is_change request && export.read_only) (Err not_permitted)
    ∷ row ((is_read request || is_trim request) && is_past_end request export) (Err not_valid)
    ∷ row ((is_write request || is_write_zeroes request) && is_past_end request export)
    (Err no_space)
    ∷ row (is_read request && nat_lt max_payload request.length) (Err not_valid)
    ∷ row (request.length == 0) (Ok task.Nothing)
    ∷ row (is_read request) (Ok (task.Read request.offset request.length))
    ∷ row (is_write request)
    (Ok (task.Write request.offset request.length (has_fua request)))
    ∷ row (is_trim request || is_write_zeroes request)
    (Ok (task.Zero request.offset request.length (has_fua request)))
    ∷ []

-- the bytes are those that the request names, at least one, and lie inside the export
pub record AreBytesOf (request : Request) (export : Export) (offset length : ℕ) : Type 0 where
  pub offset_is : offset ≡ request.offset
  pub length_is : length ≡ request.length
  pub some : 0 < length
  pub inside : offset + length ≤ size_of export

-- the task's bytes are the request's; no READ is longer than 32 MiB, only a READ reads, and only a
-- WRITE writes, so that its payload fills the bytes
abbrev pub LiesInside : Request → Export → Task → Type 0
LiesInside request export (task.Read offset length) =
    AreBytesOf request export offset length
    × ((length ≤ max_payload) × (is_read request ≡ true))
LiesInside request export (task.Write offset length _) =
    AreBytesOf request export offset length × (is_write request ≡ true)
LiesInside request export (task.Zero offset length _) = AreBytesOf request export offset length
LiesInside request export task.Flush = Unit {0}
LiesInside request export task.Nothing = Unit {0}
LiesInside request export task.Disconnect = Unit {0}
