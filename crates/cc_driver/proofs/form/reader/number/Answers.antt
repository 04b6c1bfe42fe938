use Rattle.std.proofs.Common.{◌≡◌, true, take, sym, subst}
use Rattle.std.specs.List.{list_all}
use Rattle.cc_driver.specs.FormReading.{is_digit}
use Rattle.cc_driver.proofs.Runs.{run_passes}
use Rattle.cc_driver.proofs.form.reader.number.Goals as goal

pub free_number-requires : goal.free_number-requires
free_number-requires c =
    let digits = run_passes is_digit c.rest-rest.result.now in
    subst (λ n. list_all is_digit (take n c.rest-rest.result.now) ≡ true) (sym c.digits_length-length.ensures.length) digits
