-- What a request is answered, and what its buffer holds afterwards, by the definitions of `wave`. Assumes nothing.
use Rattle.std.specs.Prelude.{true, false, List, ℕ, eqb, Float}
use Rattle.form.specs.Form.{size_numbered}
use Rattle.wave.specs.File.{count_in, samples_in, Told, header_told, header_in, file_told, file_in}
use Rattle.ask_wave.specs.declared.request.Request.{Request}
use Rattle.ask_wave.specs.declared.answer.Answer.{Answer}

-- what is printed of what a writer told
abbrev pub printed : Told → Answer
printed t = record { refusal = t.number; count = t.count }

-- so many samples, in a buffer of so many bytes
unfoldable pub answer_to : Request → ℕ → ℕ → Answer
answer_to r samples room =
    elim (eqb r.kind 0) [
      | true ↦ printed (file_told samples room)
      | false ↦
          elim (eqb r.kind 1) [
            | true ↦ record { refusal = 0; count = count_in room r.place samples }
            | false ↦ printed (header_told room)
          ]
    ]

unfoldable pub buffer_to : Request → List Float → List ℕ → List ℕ
buffer_to r samples buffer =
    elim (eqb r.kind 0) [
      | true ↦ file_in (size_numbered r.place) r.rate samples buffer
      | false ↦
          elim (eqb r.kind 1) [
            | true ↦ samples_in buffer r.place samples
            | false ↦ header_in (size_numbered r.place) r.rate r.count buffer
          ]
    ]
