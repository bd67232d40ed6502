use mathlib.Core.Path.{sym, ◌∙◌}
use mathlib.Core.Bool.{◌&&◌}
use lib.Dec.{eqb}
use Rattle.std.proofs.result.Match.{err_is}
use Rattle.tiff.specs.Required.{required_tags}
use Rattle.tiff.proofs.Laws.{passes, stops}
use Rattle.tiff.proofs.Directory.required_tags.Goals as goal

pub returns-in_err-required : goal.returns-in_err-required
unfolding required_tags
returns-in_err-required c =
    rw (sym c.first_with.ensures.0, sym c.is_measure.ensures)
    (stops c.is_measure.result 256 _ c.required.ensures c.in_err-required.was (err_is _ _ c.from_residual.ensures.1 ∙ sym c.in_err-required.was))

pub returns-in_err-required-2 : goal.returns-in_err-required-2
unfolding required_tags
returns-in_err-required-2 c =
    rw (sym c.first_with.ensures.0, sym c.is_measure.ensures, sym c.first_with-length.ensures.0, sym c.is_measure-2.ensures)
    (passes c.is_measure.result 256 _ c.required.ensures c.in_ok-required.was
    (stops c.is_measure-2.result 257 _ c.required-2.ensures c.in_err-required-2.was (err_is _ _ c.from_residual-in_err-required-2.ensures.1 ∙ sym c.in_err-required-2.was)))

pub returns-in_err-required-3 : goal.returns-in_err-required-3
unfolding required_tags
returns-in_err-required-3 c =
    rw (sym c.first_with.ensures.0, sym c.is_measure.ensures, sym c.first_with-length.ensures.0, sym c.is_measure-2.ensures, sym c.first_with-2.ensures.0, sym c.is_code.ensures)
    (passes c.is_measure.result 256 _ c.required.ensures c.in_ok-required.was
    (passes c.is_measure-2.result 257 _ c.required-2.ensures c.in_ok-required-2.was
    (stops c.is_code.result 259 _ c.required-3.ensures c.in_err-required-3.was (err_is _ _ c.from_residual-in_err-required-3.ensures.1 ∙ sym c.in_err-required-3.was))))

pub returns-in_err-required-4 : goal.returns-in_err-required-4
unfolding required_tags
returns-in_err-required-4 c =
    rw (sym c.first_with.ensures.0, sym c.is_measure.ensures, sym c.first_with-length.ensures.0, sym c.is_measure-2.ensures, sym c.first_with-2.ensures.0, sym c.is_code.ensures, sym c.first_with-3.ensures.0, sym c.is_code-2.ensures)
    (passes c.is_measure.result 256 _ c.required.ensures c.in_ok-required.was
    (passes c.is_measure-2.result 257 _ c.required-2.ensures c.in_ok-required-2.was
    (passes c.is_code.result 259 _ c.required-3.ensures c.in_ok-required-3.was
    (stops c.is_code-2.result 262 _ c.required-4.ensures c.in_err-required-4.was (err_is _ _ c.from_residual-in_err-required-4.ensures.1 ∙ sym c.in_err-required-4.was)))))

pub returns-in_err-required-5 : goal.returns-in_err-required-5
unfolding required_tags
returns-in_err-required-5 c =
    rw (sym c.first_with.ensures.0, sym c.is_measure.ensures, sym c.first_with-length.ensures.0, sym c.is_measure-2.ensures, sym c.first_with-2.ensures.0, sym c.is_code.ensures, sym c.first_with-3.ensures.0, sym c.is_code-2.ensures, sym c.first_with-4.ensures.0, sym c.is_number.ensures)
    (passes c.is_measure.result 256 _ c.required.ensures c.in_ok-required.was
    (passes c.is_measure-2.result 257 _ c.required-2.ensures c.in_ok-required-2.was
    (passes c.is_code.result 259 _ c.required-3.ensures c.in_ok-required-3.was
    (passes c.is_code-2.result 262 _ c.required-4.ensures c.in_ok-required-4.was
    (stops c.is_number.result 273 _ c.required-5.ensures c.in_err-required-5.was (err_is _ _ c.from_residual-in_err-required-5.ensures.1 ∙ sym c.in_err-required-5.was))))))

pub returns-in_err-required-6 : goal.returns-in_err-required-6
unfolding required_tags
returns-in_err-required-6 c =
    rw (sym c.first_with.ensures.0, sym c.is_measure.ensures, sym c.first_with-length.ensures.0, sym c.is_measure-2.ensures, sym c.first_with-2.ensures.0, sym c.is_code.ensures, sym c.first_with-3.ensures.0, sym c.is_code-2.ensures, sym c.first_with-4.ensures.0, sym c.is_number.ensures, sym c.first_with-rows.ensures.0, sym c.is_number-2.ensures, sym c.number_in.ensures.0, sym c.number_in-2.ensures.0)
    (passes c.is_measure.result 256 _ c.required.ensures c.in_ok-required.was
    (passes c.is_measure-2.result 257 _ c.required-2.ensures c.in_ok-required-2.was
    (passes c.is_code.result 259 _ c.required-3.ensures c.in_ok-required-3.was
    (passes c.is_code-2.result 262 _ c.required-4.ensures c.in_ok-required-4.was
    (passes c.is_number.result 273 _ c.required-5.ensures c.in_ok-required-5.was
    (stops (c.is_number-2.result && eqb c.number_in.result c.number_in-2.result) 278 _ c.required-6.ensures c.in_err-required-6.was (err_is _ _ c.from_residual-in_err-required-6.ensures.1 ∙ sym c.in_err-required-6.was)))))))

pub returns-in_err-required-7 : goal.returns-in_err-required-7
unfolding required_tags
returns-in_err-required-7 c =
    rw (sym c.first_with.ensures.0, sym c.is_measure.ensures, sym c.first_with-length.ensures.0, sym c.is_measure-2.ensures, sym c.first_with-2.ensures.0, sym c.is_code.ensures, sym c.first_with-3.ensures.0, sym c.is_code-2.ensures, sym c.first_with-4.ensures.0, sym c.is_number.ensures, sym c.first_with-rows.ensures.0, sym c.is_number-2.ensures, sym c.number_in.ensures.0, sym c.number_in-2.ensures.0, sym c.first_with-5.ensures.0, sym c.is_number-3.ensures)
    (passes c.is_measure.result 256 _ c.required.ensures c.in_ok-required.was
    (passes c.is_measure-2.result 257 _ c.required-2.ensures c.in_ok-required-2.was
    (passes c.is_code.result 259 _ c.required-3.ensures c.in_ok-required-3.was
    (passes c.is_code-2.result 262 _ c.required-4.ensures c.in_ok-required-4.was
    (passes c.is_number.result 273 _ c.required-5.ensures c.in_ok-required-5.was
    (passes (c.is_number-2.result && eqb c.number_in.result c.number_in-2.result) 278 _ c.required-6.ensures c.in_ok-required-6.was
    (stops c.is_number-3.result 279 _ c.required-7.ensures c.in_err-required-7.was (err_is _ _ c.from_residual-in_err-required-7.ensures.1 ∙ sym c.in_err-required-7.was))))))))

pub returns-in_err-required-8 : goal.returns-in_err-required-8
unfolding required_tags
returns-in_err-required-8 c =
    rw (sym c.first_with.ensures.0, sym c.is_measure.ensures, sym c.first_with-length.ensures.0, sym c.is_measure-2.ensures, sym c.first_with-2.ensures.0, sym c.is_code.ensures, sym c.first_with-3.ensures.0, sym c.is_code-2.ensures, sym c.first_with-4.ensures.0, sym c.is_number.ensures, sym c.first_with-rows.ensures.0, sym c.is_number-2.ensures, sym c.number_in.ensures.0, sym c.number_in-2.ensures.0, sym c.first_with-5.ensures.0, sym c.is_number-3.ensures, sym c.first_with-across.ensures.0, sym c.is_resolution.ensures)
    (passes c.is_measure.result 256 _ c.required.ensures c.in_ok-required.was
    (passes c.is_measure-2.result 257 _ c.required-2.ensures c.in_ok-required-2.was
    (passes c.is_code.result 259 _ c.required-3.ensures c.in_ok-required-3.was
    (passes c.is_code-2.result 262 _ c.required-4.ensures c.in_ok-required-4.was
    (passes c.is_number.result 273 _ c.required-5.ensures c.in_ok-required-5.was
    (passes (c.is_number-2.result && eqb c.number_in.result c.number_in-2.result) 278 _ c.required-6.ensures c.in_ok-required-6.was
    (passes c.is_number-3.result 279 _ c.required-7.ensures c.in_ok-required-7.was
    (stops c.is_resolution.result 282 _ c.required-8.ensures c.in_err-required-8.was (err_is _ _ c.from_residual-in_err-required-8.ensures.1 ∙ sym c.in_err-required-8.was)))))))))

pub returns : goal.returns
unfolding required_tags
returns c =
    rw (sym c.first_with.ensures.0, sym c.is_measure.ensures, sym c.first_with-length.ensures.0, sym c.is_measure-2.ensures, sym c.first_with-2.ensures.0, sym c.is_code.ensures, sym c.first_with-3.ensures.0, sym c.is_code-2.ensures, sym c.first_with-4.ensures.0, sym c.is_number.ensures, sym c.first_with-rows.ensures.0, sym c.is_number-2.ensures, sym c.number_in.ensures.0, sym c.number_in-2.ensures.0, sym c.first_with-5.ensures.0, sym c.is_number-3.ensures, sym c.first_with-across.ensures.0, sym c.is_resolution.ensures, sym c.first_with-down.ensures.0, sym c.is_resolution-2.ensures, sym c.is_like.ensures)
    (passes c.is_measure.result 256 _ c.required.ensures c.in_ok-required.was
    (passes c.is_measure-2.result 257 _ c.required-2.ensures c.in_ok-required-2.was
    (passes c.is_code.result 259 _ c.required-3.ensures c.in_ok-required-3.was
    (passes c.is_code-2.result 262 _ c.required-4.ensures c.in_ok-required-4.was
    (passes c.is_number.result 273 _ c.required-5.ensures c.in_ok-required-5.was
    (passes (c.is_number-2.result && eqb c.number_in.result c.number_in-2.result) 278 _ c.required-6.ensures c.in_ok-required-6.was
    (passes c.is_number-3.result 279 _ c.required-7.ensures c.in_ok-required-7.was
    (passes c.is_resolution.result 282 _ c.required-8.ensures c.in_ok-required-8.was
    (c.required-9.ensures)))))))))
