-- The measure is how many digits may still come.
use Rattle.journal.proofs.writing.Text.+put_decimal_in.Given as goal

abbrev pub decreases-put_decimal_in : goal.decreases-put_decimal_in
decreases-put_decimal_in l = l.n
