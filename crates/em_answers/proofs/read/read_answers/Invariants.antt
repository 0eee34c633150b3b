use Rattle.std.proofs.Common.{[]}
use Rattle.em_answers.proofs.read.read_answers.Given as goal

abbrev pub ghost-read_all : goal.ghost-read_all
ghost-read_all g a = []
