-- What is returned is the operation's number, so that its promise is this one's: a wrong argument shows where the two differ. Assumes nothing.
use Rattle.alf_c.proofs.chroma.alf_chroma.Goals as goal

pub returns : goal.returns
returns c = rw c.number.ensures c.chroma.ensures
