use Rattle.std.proofs.lemmas.Result.{err_from_is_err_and}
use Rattle.ls_deftype.specs.steps.Filling.{use_of}
use Rattle.ls_deftype.proofs.PlaceLemmas.{list_made, list_fails, vector_made, vector_fails, front_fails, rest_made, rest_fails, tail_made, tail_fails}
use Rattle.ls_deftype.proofs.arguments.Use.+fill.Goals as goal

pub fill-returns-in_ok-listed-in-List : goal.fill-returns-in_ok-listed-in-List
fill-returns-in_ok-listed-in-List t c =
    list_made (use_of c.args.self.now) c.args.datum.now c.in-List.parts c.as_slice-in-List.result.now c.in_ok-items-in-List.items c.in_ok-listed-in-List.field-0
    c.args.room.now c.take_one-in-List.new.room c.fill_elements.new.room c.in-List.is c.as_slice-in-List.ensures c.in_ok-take_one-in-List.ensures.1
    c.in_ok-items-in-List.ensures.0 c.in_ok-items-in-List.ensures.1 c.in_ok-listed-in-List.ensures

pub fill-returns-in_err-items-in-List : goal.fill-returns-in_err-items-in-List
fill-returns-in_err-items-in-List t c =
    let p = err_from_is_err_and c.from_residual-in_err-items-in-List.result c.from_residual-in_err-items-in-List.ensures.1 in
    rw (p.1, p.2) (list_fails (use_of c.args.self.now) c.args.datum.now c.in-List.parts c.as_slice-in-List.result.now c.in_err-items-in-List.field-0.0
    c.args.room.now c.take_one-in-List.new.room c.in-List.is c.as_slice-in-List.ensures c.in_ok-take_one-in-List.ensures.1 c.in_err-items-in-List.ensures)

pub fill-returns-in_ok-fill_each-in-Vector : goal.fill-returns-in_ok-fill_each-in-Vector
fill-returns-in_ok-fill_each-in-Vector t c =
    vector_made (use_of c.args.self.now) c.args.datum.now c.in-Vector.parts c.as_slice-in-Vector.result.now c.in_ok-fill_each-in-Vector.field-0
    c.args.room.now c.take_one-in-Vector.new.room c.fill_each-in-Vector.new.room c.in-Vector.is c.as_slice-in-Vector.ensures c.in_ok-take_one-in-Vector.ensures.1
    c.in_ok-fill_each-in-Vector.ensures.0 c.in_ok-fill_each-in-Vector.ensures.1

pub fill-returns-in_err-fill_each-in-Vector : goal.fill-returns-in_err-fill_each-in-Vector
fill-returns-in_err-fill_each-in-Vector t c =
    let p = err_from_is_err_and c.from_residual-in_err-fill_each-in-Vector.result c.from_residual-in_err-fill_each-in-Vector.ensures.1 in
    rw (p.1, p.2) (vector_fails (use_of c.args.self.now) c.args.datum.now c.in-Vector.parts c.as_slice-in-Vector.result.now c.in_err-fill_each-in-Vector.field-0.0
    c.args.room.now c.take_one-in-Vector.new.room c.in-Vector.is c.as_slice-in-Vector.ensures c.in_ok-take_one-in-Vector.ensures.1 c.in_err-fill_each-in-Vector.ensures)

pub fill-returns-in_err-items-in-Dotted : goal.fill-returns-in_err-items-in-Dotted
fill-returns-in_err-items-in-Dotted t c =
    let p = err_from_is_err_and c.from_residual-in_err-items-in-Dotted.result c.from_residual-in_err-items-in-Dotted.ensures.1 in
    rw (p.1, p.2) (front_fails (use_of c.args.self.now) c.args.datum.now c.in-Dotted.parts c.as_slice.result.now c.in-Dotted.last c.in_err-items-in-Dotted.field-0.0
    c.args.room.now c.take_one.new.room c.in-Dotted.is c.as_slice.ensures c.in_ok-take_one-in-Dotted.ensures.1 c.in_err-items-in-Dotted.ensures)

pub fill-returns-then-is_rest_comma : goal.fill-returns-then-is_rest_comma
fill-returns-then-is_rest_comma t c =
    rest_made (use_of c.args.self.now) c.args.datum.now c.in-Dotted.parts c.as_slice.result.now c.in_ok-items-in-Dotted.items c.in-Dotted.last c.get-in-Dotted.result.now
    c.in_ok-with_rest-in-Dotted.field-0 c.is_rest_comma.result c.args.room.now c.take_one.new.room c.fill_each.new.room c.with_rest.new.room
    c.in-Dotted.is c.as_slice.ensures c.get-in-Dotted.ensures c.is_rest_comma.ensures c.if-is_rest_comma.true c.in_ok-take_one-in-Dotted.ensures.1
    c.in_ok-items-in-Dotted.ensures.0 c.in_ok-items-in-Dotted.ensures.1 c.in_ok-with_rest-in-Dotted.ensures.0 c.in_ok-with_rest-in-Dotted.ensures.1

pub fill-returns-in_err-with_rest-in-Dotted : goal.fill-returns-in_err-with_rest-in-Dotted
fill-returns-in_err-with_rest-in-Dotted t c =
    let p = err_from_is_err_and c.from_residual-in_err-with_rest-in-Dotted.result c.from_residual-in_err-with_rest-in-Dotted.ensures.1 in
    rw (p.1, p.2) (rest_fails (use_of c.args.self.now) c.args.datum.now c.in-Dotted.parts c.as_slice.result.now c.in-Dotted.last c.get-in-Dotted.result.now
    c.is_rest_comma.result c.in_err-with_rest-in-Dotted.field-0.0 c.args.room.now c.take_one.new.room c.fill_each.new.room
    c.in-Dotted.is c.as_slice.ensures c.get-in-Dotted.ensures c.is_rest_comma.ensures c.if-is_rest_comma.true c.in_ok-take_one-in-Dotted.ensures.1
    c.in_ok-items-in-Dotted.ensures.1 c.in_err-with_rest-in-Dotted.ensures)

pub fill-returns-in_ok-fill_boxed-in-Dotted : goal.fill-returns-in_ok-fill_boxed-in-Dotted
fill-returns-in_ok-fill_boxed-in-Dotted t c =
    tail_made (use_of c.args.self.now) c.args.datum.now c.in-Dotted.parts c.as_slice.result.now c.in_ok-items-in-Dotted.items c.in-Dotted.last c.get-in-Dotted.result.now
    c.get-in-Dotted-2.result.now c.in_ok-fill_boxed-in-Dotted.field-0 c.is_rest_comma.result c.args.room.now c.take_one.new.room c.fill_each.new.room c.fill_boxed.new.room
    c.in-Dotted.is c.as_slice.ensures c.get-in-Dotted.ensures c.get-in-Dotted-2.ensures c.is_rest_comma.ensures c.if-is_rest_comma.false c.in_ok-take_one-in-Dotted.ensures.1
    c.in_ok-items-in-Dotted.ensures.0 c.in_ok-items-in-Dotted.ensures.1 c.in_ok-fill_boxed-in-Dotted.ensures.0 c.in_ok-fill_boxed-in-Dotted.ensures.1

pub fill-returns-in_err-fill_boxed-in-Dotted : goal.fill-returns-in_err-fill_boxed-in-Dotted
fill-returns-in_err-fill_boxed-in-Dotted t c =
    let p = err_from_is_err_and c.from_residual-in_err-fill_boxed-in-Dotted.result c.from_residual-in_err-fill_boxed-in-Dotted.ensures.1 in
    rw (p.1, p.2) (tail_fails (use_of c.args.self.now) c.args.datum.now c.in-Dotted.parts c.as_slice.result.now c.in-Dotted.last c.get-in-Dotted.result.now
    c.get-in-Dotted-2.result.now c.is_rest_comma.result c.in_err-fill_boxed-in-Dotted.field-0.0 c.args.room.now c.take_one.new.room c.fill_each.new.room
    c.in-Dotted.is c.as_slice.ensures c.get-in-Dotted.ensures c.get-in-Dotted-2.ensures c.is_rest_comma.ensures c.if-is_rest_comma.false c.in_ok-take_one-in-Dotted.ensures.1
    c.in_ok-items-in-Dotted.ensures.1 c.in_err-fill_boxed-in-Dotted.ensures)
