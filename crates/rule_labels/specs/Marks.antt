-- The labels of a `case` in the text: a walk over them needs no environment.
use Rattle.std.specs.Prelude.{List, [], ◌∷◌, ◌++◌}
use Rattle.std.proofs.Math.Option.{Option, none, some}
use Rattle.law.specs.Base.{◌>>=◌}
use Rattle.law.specs.Forms.{constant}
use Rattle.law.specs.Syntax.{Constant, Arms, arm, else_arm, no_else}
use Rattle.law.specs.Trees.{word, form, Trees, end, ◌then◌, Run}
use Rattle.law.specs.Words.{worded}

-- with one more, if it is a constant
unfoldable pub with_mark : Option Constant → List Constant → List Constant
with_mark none cs = cs
with_mark (some c) cs = c ∷ cs

-- the constants among the parts of an arm but the last
unfoldable pub marks_in : Trees Run → List Constant
marks_in end = []
marks_in (t then end) = []
marks_in (t then (u then ts)) = with_mark (worded t >>= constant) (marks_in (u then ts))

-- of all arms; an `else` has none, as its statement is its last part
unfoldable pub marks_of : Trees Run → List Constant
marks_of end = []
marks_of (word w then ts) = []
marks_of (form end then ts) = []
marks_of (form (form us then vs) then ts) = []
marks_of (form (word w then us) then ts) = marks_in us ++ marks_of ts

-- the labels of arms that are read
unfoldable pub labels_of_arms : Arms → List Constant
labels_of_arms (else_arm s) = []
labels_of_arms no_else = []
labels_of_arms (arm cs s bs) = cs ++ labels_of_arms bs
