use Rattle.text_words.proofs.WordPasses.{leaf-is}
use Rattle.text_words.proofs.lines.leaf_at.Goals as goal

pub returns : goal.returns
returns c = search leaf-is
