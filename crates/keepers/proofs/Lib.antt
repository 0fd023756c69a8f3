mod CutSaves
mod Left
