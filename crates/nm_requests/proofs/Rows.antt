-- Of the table's rows one applies, and the first that does has one result.
use Rattle.std.proofs.Common.{◌≡◌, ℕ, ◌+◌, Bool, true, false, List, [], ◌∷◌, ◌++◌, map, refl, Result}
use Rattle.std.specs.Prelude.{not, ◌||◌, ◌&&◌, ◌==◌, nat_lt}
use Rattle.std.specs.Bool.{MatchBool}
use Rattle.nm_wire.specs.declared.export.Export.{Export}
use Rattle.nm_requests.specs.declared.request.Request.{Request}
use Rattle.nm_requests.specs.declared.task.Task.{Task}
use Rattle.nm_requests.specs.Judging.{Row, row, IsFirst, table, is_read, is_write, is_disconnect, is_flush, is_trim, is_write_zeroes, contains, fua, no_hole, is_change, is_past_end}
use Rattle.nm_wire.specs.Sizes.{max_payload}

-- one of the tests is true
abbrev pub SomeTrue : List Bool → Type 0
SomeTrue [] = ⊥
SomeTrue (test ∷ tests) = MatchBool test (Unit {0}) (SomeTrue tests)

some_after : (prefix tests : List Bool) → SomeTrue tests → SomeTrue (prefix ++ tests)
some_after [] tests some = some
some_after (true ∷ prefix) tests some = tt
some_after (false ∷ prefix) tests some = some_after prefix tests some

-- a known type has its row among the last, and an unknown one the second
each_type : (disconnect read write flush trim zeroes a c d e f g : Bool)
    → SomeTrue (disconnect ∷ not (read || (write || (disconnect || (flush ||
    (trim || zeroes))))) ∷ a ∷ flush ∷ c ∷ d ∷ e ∷ f ∷ g ∷ read ∷ write ∷
    (trim || zeroes) ∷ [])
each_type true read write flush trim zeroes a c d e f g = tt
each_type false true write flush trim zeroes a c d e f g =
    some_after (a ∷ flush ∷ c ∷ d ∷ e ∷ f ∷ g ∷ []) (true ∷ write ∷ (trim || zeroes) ∷ []) tt
each_type false false true flush trim zeroes a c d e f g =
    some_after (a ∷ flush ∷ c ∷ d ∷ e ∷ f ∷ g ∷ []) (false ∷ true ∷ (trim || zeroes) ∷ []) tt
each_type false false false true trim zeroes a c d e f g =
    some_after (a ∷ []) (true ∷ c ∷ d ∷ e ∷ f ∷ g ∷ false ∷ false ∷ (trim || zeroes) ∷ []) tt
each_type false false false false true zeroes a c d e f g =
    some_after (a ∷ false ∷ c ∷ d ∷ e ∷ f ∷ g ∷ []) (false ∷ false ∷ true ∷ []) tt
each_type false false false false false true a c d e f g =
    some_after (a ∷ false ∷ c ∷ d ∷ e ∷ f ∷ g ∷ []) (false ∷ false ∷ true ∷ []) tt
each_type false false false false false false a c d e f g = tt

tests_of : List Row → List Bool
tests_of rows = map (λ r. r.applies) rows

some_row : (request : Request) (export : Export) → SomeTrue (tests_of (table request export))
unfolding tests_of
some_row request export =
    each_type (is_disconnect request) (is_read request) (is_write request) (is_flush request)
    (is_trim request) (is_write_zeroes request)
    (not (contains (fua + no_hole) request.flags.0))
    (is_change request && export.read_only)
    ((is_read request || is_trim request) && is_past_end request export)
    ((is_write request || is_write_zeroes request) && is_past_end request export)
    (is_read request && nat_lt max_payload request.length)
    (request.length == 0)

-- the one result of the first row that applies
abbrev pub HasOneResult : List Row → Type 0
HasOneResult rows = (result : Result Task ℕ) × IsFirst rows result × ((other : Result Task ℕ)
    → IsFirst rows other → other ≡ result)

first_or_later : (applies : Bool) (result : Result Task ℕ) (rows : List Row)
    → SomeTrue (applies ∷ tests_of rows) → (SomeTrue (tests_of rows) → HasOneResult rows)
    → HasOneResult (row applies result ∷ rows)
first_or_later true result rows some later = (result, refl, λ other first. first)
first_or_later false result rows some later = later some

one_result : (rows : List Row) → SomeTrue (tests_of rows) → HasOneResult rows
unfolding tests_of
one_result [] some = absurd some
one_result (r ∷ rows) some = first_or_later r.applies r.result rows some
    (λ later. one_result rows later)

pub table_has_one_result : (request : Request) (export : Export)
    → HasOneResult (table request export)
table_has_one_result request export = one_result (table request export) (some_row request export)
