-- The numbers of the taps before j are spread.
use Rattle.alf_taps.specs.Spread.{TapNumbers}
use Rattle.alf_chroma.specs.Pieces.{Spread}
use Rattle.alf_chroma.proofs.piece.spread.Given as goal

abbrev pub invariant-loop-j : goal.invariant-loop-j
invariant-loop-j l = record {
  spread : Spread l.filters l.j l.n l.taps;
  numbers : TapNumbers l.taps;
}
