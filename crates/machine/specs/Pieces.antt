-- A piece past the end of a task.
use Rattle.machine.specs.declared.piece.Piece.{Piece}

abbrev pub no_piece : Piece
no_piece = record { ready = 0; cap = 0; due = 0 }
