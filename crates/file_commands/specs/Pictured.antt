-- The pictures of a controller, as SVG.
use Rattle.std.specs.Prelude.{ℕ, List}
use Rattle.job_picture.specs.Picture.{picture_of}
use Rattle.job_picture.specs.WorkerPicture.{worker_picture_of}
use Rattle.stored_state.specs.declared.any_controller.AnyController.{AnyController}
use Rattle.stored_state.specs.declared.any_controller.AnyController.TheVariants.{Master as of_master}
use Rattle.stored_state.specs.declared.any_controller.AnyController.TheVariants.{Worker as of_worker}

-- the picture of a controller at a moment
abbrev pub picture_text : ℕ → AnyController → List ℕ
picture_text now (of_master m) = picture_of now m
picture_text now (of_worker w) = worker_picture_of now w
