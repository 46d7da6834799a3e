-- The round trip of job files, both ways.
use Rattle.writer.specs.RoundTrip.{RoundTrip}
use Rattle.job.proofs.Accepted.{file_fine}
use Rattle.writer.proofs.WriteAnswer.{write_fine}
use Rattle.writer.proofs.FileBytes.{file_traces}
use Rattle.writer.proofs.WrittenFile.{written_accepted, written_opens}
use Rattle.writer.proofs.ReadFile.{file_again, write_again}

pub round_trip : RoundTrip
round_trip =
    record {
      written = λ counts records room e.
          let fine = write_fine counts records room e in
          (written_accepted counts records room fine, file_traces counts records, written_opens counts records room fine);
      read = λ file bytes e. let fine = file_fine file e in (file_again file bytes fine, write_again file bytes fine);
    }
