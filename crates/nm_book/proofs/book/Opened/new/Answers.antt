use Rattle.nm_book.proofs.Moves.{begins}
use Rattle.nm_book.proofs.book.Opened.new.Goals as goal

pub of_words-requires : goal.of_words-requires
of_words-requires g c = begins g.G.Legality.legal c.requires
