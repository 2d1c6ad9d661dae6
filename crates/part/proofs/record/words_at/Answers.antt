-- Each word is that of its place.
use Rattle.part.proofs.Words.{words_made}
use Rattle.std.proofs.Common.{rules}
use Rattle.part.proofs.record.words_at.Goals as goal

pub returns : goal.returns
returns g c =
    let a = c.args in
    words_made g.row.N a.part.now a.at c.from_fn.result c.from_fn.ensures.items (λ i y q m. search rules)
