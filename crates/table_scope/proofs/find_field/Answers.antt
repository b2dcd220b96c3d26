use Rattle.table_scope.proofs.Fields.{ask-laws, ask-start}
use Rattle.table_scope.proofs.find_field.Goals as goal

pub loop-j-init : goal.loop-j-init
loop-j-init c = ask-start _ _ _ _ _

pub returns-then-same_word : goal.returns-then-same_word
returns-then-same_word c = search ask-laws

pub loop-j-preserved : goal.loop-j-preserved
loop-j-preserved c = search ask-laws

pub returns : goal.returns
returns c = search ask-laws
