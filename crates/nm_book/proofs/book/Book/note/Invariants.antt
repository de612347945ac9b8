use Rattle.std.specs.Prelude.{Some}
use Rattle.nm_book.proofs.book.Book.note.Given as goal

-- what the caller has in hand says it
abbrev pub ghosts-append : goal.ghosts-append
ghosts-append g a = record { what = Some (g.M.Notes.what a._about.now) }
